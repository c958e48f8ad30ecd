-- The first visible tree of entries that are left, and what is left after it.
use Rattle.std.proofs.Common.{◌≡◌, ℕ, suc, ◌+◌, ◌-◌, ◌<◌, true, false, List, []}
use Rattle.std.proofs.Common.{◌∷◌, ◌++◌, length, drop, refl, arith}
use Rattle.std.proofs.Common.{length-drop, Some, None}
use Rattle.std.proofs.Math.Seq.{take-append_seam, drop-append_seam}
use Rattle.std.proofs.lemmas.List.{drop-drop, get_or-drop}
use Rattle.std.proofs.lemmas.Option.{get_or_from_slice_get, slice_get-get_or, slice_get_within}
use Rattle.std.specs.List.{prefix_len, slice_get}
use Rattle.tok_lexical.specs.declared.delimiter.Delimiter.{Delimiter}
use Rattle.tok_lexical.specs.declared.delimiter.Delimiter.TheVariants as delimiter
use Rattle.tok_leaves.specs.declared.span.Span.{Span}
use Rattle.tok_leaves.specs.Leaves.{Leaf, ident, punct, literal, leaf_text}
use Rattle.tok_leaves.specs.Spans.{opening_span, closing_span}
use Rattle.tok_core.specs.Erase.{erase}
use Rattle.tok_core.specs.Forest.{leaf, group, Forest, no_trees, tree}
use Rattle.tok_core.specs.Weight.{weight}
use Rattle.tok_entries.specs.Entries.{edge, entries, leaf_entry, texts, tree_entries}
use Rattle.tok_entries.specs.Visible.{IsVisible, Shows, at_end, past_opening, past_closing}
use Rattle.tok_entries.specs.Visible.{with_leaf, with_group, between}
use Rattle.tok_entries.specs.Cursor.{front, is_invisible_closing, is_invisible_edge, step_over}
use Rattle.tok_entries.specs.declared.entry.Entry.{Entry}

-- an element of a list's rest
pub get_rest : {A : Type 0} (k m i : ℕ) (es : List A) (x : A) → i ≡ k + m
    → slice_get (drop k es) m ≡ Some x → slice_get es i ≡ Some x
get_rest k m i es x same h =
    let low : m < length (drop k es) = slice_get_within (drop k es) m x h in
    let is = get_or_from_slice_get (drop k es) m x x h in
    cc (
      get_or-drop k es m x,
      slice_get-get_or es i x (omega (arith, low, length-drop k es, same)),
    )

module _ (n : ℕ) (es xs more : List Entry) (cut : drop n es ≡ xs ++ more) where
  -- what is after a part of a list
  pub rest_after : (m : ℕ) → m ≡ n + length xs → drop m es ≡ more
  rest_after m reach =
      cc (drop-drop (length xs) n es, drop-append_seam xs more)

  pub between_is : (last : ℕ) → last + 1 ≡ n + length xs
      → between (step_over es n last) es ≡ xs
  between_is last reach =
      let long : last + 1 - n ≡ length xs = omega (arith, reach) in
      rw (long, cut) (take-append_seam xs more)

-- an edge of an invisible group comes before what comes first
more_hidden : (e : Entry) (es : List Entry) → is_invisible_edge e ≡ true
    → front (e ∷ es) ≡ suc (front es)
more_hidden e es hides =
    rw hides (omega arith)

none_hidden : (e : Entry) (es : List Entry) → is_invisible_edge e ≡ false → front (e ∷ es) ≡ 0
none_hidden e es no_edge =
    rw no_edge

leaf_seen : (at : ℕ) (l : Leaf) → is_invisible_edge (leaf_entry at l) ≡ false
leaf_seen at (ident text span) = refl
leaf_seen at (punct c spacing span) = refl
leaf_seen at (literal text span) = refl

leaf_opens : (at : ℕ) (l : Leaf) → is_invisible_closing (leaf_entry at l) ≡ false
leaf_opens at (ident text span) = refl
leaf_opens at (punct c spacing span) = refl
leaf_opens at (literal text span) = refl

group_seen : (d : Delimiter) (span : Span) (at distance : ℕ) → IsVisible d
    → is_invisible_edge (edge 3 d span at distance) ≡ false
group_seen delimiter.None span at distance v = absurd (v refl)
group_seen delimiter.Parenthesis span at distance v = refl
group_seen delimiter.Brace span at distance v = refl
group_seen delimiter.Bracket span at distance v = refl

-- a visible group's tree without invisible groups
pub erase_group : (d : Delimiter) (inside : Forest) (span : Span) (f : Forest) → IsVisible d
    → erase (tree (group d inside span) f) ≡ tree (group d (erase inside) span) (erase f)
erase_group delimiter.None inside span f v = absurd (v refl)
erase_group delimiter.Parenthesis inside span f v = refl
erase_group delimiter.Brace inside span f v = refl
erase_group delimiter.Bracket inside span f v = refl

-- the first visible tree is at the front, and the others are shown by what comes after it
pub data Front : ℕ → List Entry → Forest → Type 0 where
  no_front : (at : ℕ) (es : List Entry) → slice_get es (front es) ≡ None → Front at es no_trees
  leaf_front : (at : ℕ) (es : List Entry) (l : Leaf) (more : List Entry) (f : Forest)
      → drop (front es) es ≡ leaf_entry at l ∷ more → Shows (at + length (leaf_text l)) more f
      → Front at es (tree (leaf l) f)
  group_front : (at : ℕ) (es : List Entry) (d : Delimiter) (inside : Forest) (span : Span)
      (more : List Entry) (f : Forest) → IsVisible d
      → drop (front es) es ≡ tree_entries at (group d inside span) ++ more
      → Shows (at + length (texts inside)) more f
      → Front at es (tree (group d (erase inside) span) f)

further : {at : ℕ} {es : List Entry} {f : Forest} (e : Entry) → is_invisible_edge e ≡ true
    → Front at es f → Front at (e ∷ es) f
further e hides (no_front at es h) =
    no_front at (e ∷ es) (rw (more_hidden e es hides) h)
further e hides (leaf_front at es l more f cut h) =
    leaf_front at (e ∷ es) l more f (rw (more_hidden e es hides) cut) h
further e hides (group_front at es d inside span more f v cut h) =
    group_front at (e ∷ es) d inside span more f v
    (rw (more_hidden e es hides) cut) h

pub front_of : {at : ℕ} {es : List Entry} {f : Forest} → Shows at es f → Front at es f
front_of (at_end at) = no_front at [] refl
front_of (past_opening at distance span es f h) =
    further (edge 3 delimiter.None span at distance) refl (front_of h)
front_of (past_closing at distance span es f h) =
    further (edge 4 delimiter.None span at distance) refl (front_of h)
front_of (with_leaf at l es f h) =
    leaf_front at (leaf_entry at l ∷ es) l es f
    (rw (none_hidden (leaf_entry at l) es (leaf_seen at l))) h
front_of (with_group at d inside span es f v h) =
    group_front at (tree_entries at (group d inside span) ++ es) d inside span es f v
    (rw (none_hidden (edge 3 d (opening_span span) at (weight inside + 1)) _
    (group_seen d (opening_span span) at (weight inside + 1) v))) h

-- without the closings that come first
abbrev settled : List Entry → List Entry
settled es = drop (prefix_len is_invisible_closing es) es

stays : (at : ℕ) (e : Entry) (es : List Entry) (f : Forest) → is_invisible_closing e ≡ false
    → Shows at (e ∷ es) f → Shows at (settled (e ∷ es)) f
stays at e es f other h =
    rw other h

-- the closings that come first show nothing
pub settle : {at : ℕ} {es : List Entry} {f : Forest} → Shows at es f → Shows at (settled es) f
settle (at_end at) = at_end at
settle (past_opening at distance span es f h) =
    stays at (edge 3 delimiter.None span at distance) es f refl
    (past_opening at distance span es f h)
settle (past_closing at distance span es f h) =
    let n : 1 + prefix_len is_invisible_closing es ≡ suc (prefix_len is_invisible_closing es) =
    omega arith in
    rw n (settle h)
settle (with_leaf at l es f h) =
    stays at (leaf_entry at l) es (tree (leaf l) f) (leaf_opens at l) (with_leaf at l es f h)
settle (with_group at d inside span es f v h) =
    stays at (edge 3 d (opening_span span) at (weight inside + 1))
    ((entries at inside
    ++ edge 4 d (closing_span span) (at + length (texts inside)) (weight inside + 1) ∷ []) ++ es)
    (tree (group d (erase inside) span) f) refl (with_group at d inside span es f v h)

-- what is left after a token
pub left_after : (at n last : ℕ) (es more : List Entry) (f : Forest)
    → drop (last + 1) es ≡ more → Shows at more f
    → Shows at (drop (step_over es n last).next es) f
left_after at n last es more f cut h =
    let k = prefix_len is_invisible_closing (drop (last + 1) es) in
    rw (← drop-drop k (last + 1) es, cut) (settle h)
