-- The entries of a forest show it without invisible groups.
use Rattle.std.proofs.Common.{◌≡◌, ℕ, ◌+◌, List, [], ◌∷◌, ◌++◌, length, drop, refl}
use Rattle.std.proofs.Common.{arith, append_assoc, length-append}
use Rattle.std.proofs.lemmas.List.{append-nil}
use Rattle.tok_lexical.specs.declared.delimiter.Delimiter.{Delimiter}
use Rattle.tok_lexical.specs.declared.delimiter.Delimiter.TheVariants as delimiter
use Rattle.tok_leaves.specs.declared.span.Span.{Span}
use Rattle.tok_leaves.specs.Leaves.{leaf_text}
use Rattle.tok_leaves.specs.Spans.{opening_span, closing_span}
use Rattle.tok_core.specs.Erase.{erase}
use Rattle.tok_core.specs.Forest.{leaf, group, Forest, no_trees, tree, concat}
use Rattle.tok_core.specs.Weight.{weight}
use Rattle.tok_core.proofs.Facts.{concat-none, joined_assoc}
use Rattle.tok_entries.specs.Entries.{BeginsWith, edge, entries, texts, tree_entries}
use Rattle.tok_entries.specs.Entries.{tree_texts}
use Rattle.tok_entries.specs.Visible.{IsLeft, IsVisible, Shows, at_end, past_opening, past_closing}
use Rattle.tok_entries.specs.Visible.{with_leaf, with_group}
use Rattle.tok_entries.specs.declared.entry.Entry.{Entry}

texts_concat : (f g : Forest) → texts (concat f g) ≡ texts f ++ texts g
texts_concat no_trees g = refl
texts_concat (tree t f) g =
    cc (texts_concat f g, append_assoc (tree_texts t) (texts f) (texts g))

-- invisible groups have no texts of their own
pub texts_erased : (f : Forest) → texts (erase f) ≡ texts f
texts_erased no_trees = refl
texts_erased (tree (leaf l) f) = cc (texts_erased f)
texts_erased (tree (group delimiter.None inside span) f) =
    cc (texts_concat (erase inside) (erase f), texts_erased inside, texts_erased f)
texts_erased (tree (group d inside span) f) =
    cc (texts_erased inside, texts_erased f)

-- a group's entries, and those after it
group_then : (at : ℕ) (d : Delimiter) (inside : Forest) (span : Span) (es : List Entry)
    → tree_entries at (group d inside span) ++ es
    ≡ edge 3 d (opening_span span) at (weight inside + 1)
    ∷ (entries at inside
    ++ edge 4 d (closing_span span) (at + length (texts inside)) (weight inside + 1) ∷ es)
group_then at d inside span es =
    rw append_assoc

-- a visible group, and the trees after it
show_group : (at : ℕ) (d : Delimiter) (inside : Forest) (span : Span) (f : Forest)
    (es : List Entry) (g : Forest) → IsVisible d
    → (Shows (at + length (texts inside) + length (texts f)) es g
    → Shows (at + length (texts inside)) (entries (at + length (texts inside)) f ++ es)
    (concat (erase f) g))
    → Shows (at + length (texts inside ++ texts f)) es g
    → Shows at (entries at (tree (group d inside span) f) ++ es)
    (concat (tree (group d (erase inside) span) (erase f)) g)
show_group at d inside span f es g v more h =
    let n : at + length (texts inside ++ texts f)
    ≡ at + length (texts inside) + length (texts f) =
    omega (arith, length-append (texts inside) (texts f)) in
    rw (append_assoc (tree_entries at (group d inside span))
    (entries (at + length (texts inside)) f) es)
    (with_group at d inside span (entries (at + length (texts inside)) f ++ es)
    (concat (erase f) g) v (more (rw n at h)))

-- a forest's entries before others
pub show_all : (f : Forest) (at : ℕ) (es : List Entry) (g : Forest)
    → Shows (at + length (texts f)) es g → Shows at (entries at f ++ es) (concat (erase f) g)
show_all no_trees at es g h =
    let n : at + length (texts no_trees) ≡ at = omega arith in
    rw n at h
show_all (tree (leaf l) f) at es g h =
    let n : at + length (leaf_text l ++ texts f) ≡ at + length (leaf_text l) + length (texts f) =
    omega (arith, length-append (leaf_text l) (texts f)) in
    with_leaf at l (entries (at + length (leaf_text l)) f ++ es) (concat (erase f) g)
    (show_all f (at + length (leaf_text l)) es g (rw n at h))
show_all (tree (group delimiter.None inside span) f) at es g h =
    let k = at + length (texts inside) in
    let n : at + length (texts inside ++ texts f) ≡ k + length (texts f) =
    omega (arith, length-append (texts inside) (texts f)) in
    let rest : Shows k (entries k f ++ es) (concat (erase f) g) =
    show_all f k es g (rw n at h) in
    let closed = past_closing k (weight inside + 1) (closing_span span) _ _ rest in
    let all = past_opening at (weight inside + 1) (opening_span span) _ _
    (show_all inside at _ _ closed) in
    rw (
      append_assoc (tree_entries at (group delimiter.None inside span)) (entries k f) es,
      group_then at delimiter.None inside span (entries k f ++ es),
      joined_assoc (erase inside) (erase f) g,
    ) all
show_all (tree (group d inside span) f) at es g h =
    show_group at d inside span f es g (λ e. absurd (cc))
    (show_all f (at + length (texts inside)) es g) h

-- what a forest's entries show
pub entries_show : (at : ℕ) (bs : List ℕ) (f : Forest) → BeginsWith (drop at bs) (texts f)
    → IsLeft at bs (entries at f) (erase f)
entries_show at bs f begin = (
  rw (append-nil (entries at f), concat-none (erase f))
      at (show_all f at [] no_trees (at_end (at + length (texts f)))),
  rw (texts_erased f) begin,
)
