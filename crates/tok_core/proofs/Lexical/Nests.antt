-- What is added to the trees so far.
use Rattle.std.proofs.Common.{◌≡◌, ◌∙◌, ℕ, zero, suc, ◌+◌, ◌<◌, ◌≤◌, List, [], ◌∷◌, ◌++◌, length}
use Rattle.std.proofs.Common.{refl, ap, arith, append_assoc, length-append}
use Rattle.std.specs.Prelude.{Bool, true, false, ◌-◌, ◌==◌, if◌then◌else◌}
use Rattle.std.specs.Str.{chars, IsUtf8}
use Rattle.std.proofs.lemmas.Str.{encodes-chars}
use Rattle.tok_lexical.specs.declared.delimiter.Delimiter.{Delimiter}
use Rattle.tok_leaves.specs.Spans.{source}
use Rattle.tok_leaves.specs.declared.punct.Spacing.{Spacing}
use Rattle.tok_leaves.specs.declared.punct.Spacing.TheVariants.{Alone, Joint}
use Rattle.tok_leaves.specs.declared.span.Span.{Span}
use Rattle.tok_core.specs.Lexical.Meaning.{punct_item, ident_item, literal_item}
use Rattle.tok_core.specs.Lexical.Meaning.{pointed_items, doc_items}
use Rattle.tok_core.specs.Private.Attribute.{doc_forest}
use Rattle.tok_lexical.specs.Following.{makes_joint, takes_point}
use Rattle.tok_lexical.specs.Pieces.{up_to}
use Rattle.tok_lexical.specs.Widths.{bytes}
use Rattle.tok_lexical.specs.declared.delimiter.Delimiter.TheVariants.{Bracket}
use Rattle.tok_leaves.specs.Leaves.{Leaf, ident, punct, literal}
use Rattle.tok_core.specs.Forest.{leaf, group, Forest, no_trees, tree, concat}
use Rattle.tok_core.specs.Lexical.Items.{Item, leaf_item, opening, closing, Flat, no_items}
use Rattle.tok_core.specs.Lexical.Items.{leaf_first, group_first, depth, most_levels, Opens, inside}
use Rattle.tok_core.specs.Lexical.Items.{within}
use Rattle.tok_core.specs.Building.{add_forest, add_leaf, opened, Closes}
use Rattle.tok_core.specs.Private.Built.{State, Holds, last, outer, Reached, Grows}
use Rattle.tok_core.proofs.Lexical.Flat.{flat_joined, depth_joined}

-- the trees so far are a forest with groups still open
pub opens_of : {number n : ℕ} {groups : List (Delimiter × ℕ)} {levels : List Forest} {f : Forest}
    {all : List Item} → Holds number n groups levels f all → Opens number n groups all
opens_of {f = f} (last d k) = inside (f, d, k)
opens_of (outer {earlier = earlier} {before = before} {all = all} d k h) =
    within before all (earlier, d, k) (opens_of h)

-- there are trees before each open group
pub paired_of : {number n : ℕ} {groups : List (Delimiter × ℕ)} {levels : List Forest}
    {f : Forest} {all : List Item} → Holds number n groups levels f all → length groups
    ≡ length levels
paired_of (last d k) = refl
paired_of (outer d k h) = ap suc (paired_of h)

-- more trees at the innermost level
holds_more : {number n : ℕ} {groups : List (Delimiter × ℕ)} {levels : List Forest}
    {f : Forest} {all : List Item} (g : Forest) (more : List Item) →
    depth g + length groups ≤ n → Flat number g more → Holds number n groups levels f all →
    Holds number n groups levels (concat f g) (all ++ more)
holds_more {n = n} {f = f} g more l m (last d k) = last (depth_joined n f g d (omega arith))
    (flat_joined k m)
holds_more g more l m (outer {start = start} {delimiter = delimiter} {before = before} {all = all}
    d k h) =
    rw (append_assoc before (opening delimiter start ∷ all) more)
    (outer d k (holds_more g more (omega arith) m h))

holds_open : {number n : ℕ} {groups : List (Delimiter × ℕ)} {levels : List Forest}
    {f : Forest} {all : List Item} (delimiter : Delimiter) (at : ℕ) → length groups < n →
    Holds number n groups levels f all → Holds number n (groups ++ (delimiter, at) ∷ [])
    (levels ++ f ∷ []) no_trees (all ++ opening delimiter at ∷ [])
holds_open {n = zero} delimiter at l (last d k) = absurd (omega arith)
holds_open {number} {n = suc n} {f = f} {all = all} delimiter at l (last d k) =
    outer d k (last (omega arith) no_items)
holds_open delimiter at l (outer {start = s} {delimiter = e} {before = before} {all = all} d k m) =
    rw (append_assoc before (opening e s ∷ all) (opening delimiter at ∷ []))
    (outer d k (holds_open delimiter at (omega arith) m))

holds_closed : {number n : ℕ} {f : Forest} {all : List Item} (groups : List (Delimiter × ℕ))
    (levels : List Forest) (delimiter : Delimiter) (start : ℕ) (earlier : Forest) (end : ℕ) →
    Holds number n (groups ++ (delimiter, start) ∷ []) (levels ++ earlier ∷ []) f all →
    Holds number n groups levels
    (concat earlier (tree (group delimiter f (source number start end)) no_trees))
    (all ++ closing delimiter end ∷ [])
holds_closed {n = n} [] [] delimiter start earlier end
    (outer {before = before} {all = all} d k (last e m)) =
    last (depth_joined n earlier _ d (omega arith))
    (rw (append_assoc before (opening delimiter start ∷ all) (closing delimiter end ∷ []))
    (flat_joined k (group_first delimiter start end m no_items)))
holds_closed (p ∷ groups) (w ∷ levels) delimiter start earlier end
    (outer {before = before} {all = all} d k h) =
    rw (append_assoc before (opening p.0 p.1 ∷ all) (closing delimiter end ∷ []))
    (outer d k (holds_closed groups levels delimiter start earlier end h))
holds_closed [] (w ∷ levels) delimiter start earlier end (outer d k h) =
    absurd (omega (arith, paired_of h, length-append levels (earlier ∷ [])))
holds_closed (p ∷ groups) [] delimiter start earlier end (outer d k h) =
    absurd (omega (arith, paired_of h, length-append groups ((delimiter, start) ∷ [])))

reached_push : (groups : List (Delimiter × ℕ)) (delimiter : Delimiter) (start at : ℕ) →
    start ≤ at → Reached groups at → Reached (groups ++ (delimiter, start) ∷ []) at
reached_push [] delimiter start at l r = (l, tt)
reached_push (h ∷ groups) delimiter start at l r =
    (r.0, reached_push groups delimiter start at l r.1)

pub reached_pop : (groups : List (Delimiter × ℕ)) (g : Delimiter × ℕ) (at : ℕ) →
    Reached (groups ++ g ∷ []) at → Reached groups at × (g.1 ≤ at)
reached_pop [] g at r = (tt, r.0)
reached_pop (h ∷ groups) g at r = let s = reached_pop groups g at r.1 in ((r.0, s.0), s.1)

pub reached_later : (groups : List (Delimiter × ℕ)) (at end : ℕ) → at ≤ end → Reached groups at →
    Reached groups end
reached_later [] at end l r = tt
reached_later (g ∷ groups) at end l r =
    (let s = r.0 in omega arith, reached_later groups at end l r.1)

holds_bound : {number n : ℕ} {groups : List (Delimiter × ℕ)} {levels : List Forest} {f : Forest}
    {all : List Item} → Holds number n groups levels f all → length groups ≤ n
holds_bound (last d k) = omega arith
holds_bound (outer d k h) = let b = holds_bound h in omega arith

module _ (at : ℕ) (old new : State) where
  grows_forest : (g : Forest) (more : List Item) →
      ((n : ℕ) → n ≤ most_levels → length old.groups ≤ n →
      depth g + length old.groups ≤ most_levels) →
      Flat old.source g more → new.source ≡ old.source → new.groups ≡ old.groups →
      new.levels ≡ add_forest g old.levels → Grows at old new more
  grows_forest g more few flat s o t = record {
    same_source = s;
    reached = λ r. rw o r;
    holds = λ all h. rw (o, t)
        (holds_more g more (few most_levels (omega arith) (holds_bound h)) flat h);
  }

  pub grows_opened : (delimiter : Delimiter) → (length old.groups ≡ most_levels → ⊥) →
      new.source ≡ old.source → new.groups ≡ old.groups ++ (delimiter, at) ∷ [] →
      new.levels ≡ opened old.levels → Grows at old new (opening delimiter at ∷ [])
  grows_opened delimiter few s o t = record {
    same_source = s;
    reached = λ r. rw o (reached_push old.groups delimiter at at (omega arith) r);
    holds = λ all h. let bound = holds_bound h in
        rw (o, t) (holds_open delimiter at (omega arith) h);
  }

  pub grows_closed : (delimiter : Delimiter) (start end : ℕ) (g : Delimiter × ℕ) (span : Span) →
      g ≡ (delimiter, start) → new.source ≡ old.source → old.groups ≡ new.groups ++ g ∷ [] →
      span ≡ source old.source start end → Closes delimiter span old.levels new.levels →
      Grows at old new (closing delimiter end ∷ [])
  grows_closed delimiter start end g span e s o p (f, before, after) = record {
    same_source = s;
    reached = λ r. (reached_pop new.groups g at (rw o at r)).0;
    holds = λ all h. rw (after, p)
        (holds_closed new.groups new.levels.outer delimiter start f end (rw (before, o, e) at h));
  }

-- one addition after the other
grows_both : (at : ℕ) (old mid new : State) (xs : List Item) (ys : ℕ → List Item) →
    Grows at old mid xs → Grows at mid new (ys mid.source) →
    Grows at old new (xs ++ ys old.source)
grows_both at old mid new xs ys g h = record {
  same_source = h.same_source ∙ g.same_source;
  reached = λ r. h.reached (g.reached r);
  holds = λ all k. rw (← (append_assoc all xs (ys old.source)), ← g.same_source)
      (h.holds (all ++ xs) (rw g.same_source (g.holds all k)));
}

-- the same of what the lexer makes
module _ (at : ℕ) (old new : State) (s : new.source ≡ old.source) (o : new.groups ≡ old.groups)
    (made : Leaf) (t : new.levels ≡ add_leaf made old.levels) (span : Span) where
  grows_made : (l : Leaf) → made ≡ l → Grows at old new (leaf_item l ∷ [])
  grows_made l e =
      grows_forest at old new (tree (leaf l) no_trees) (leaf_item l ∷ []) (λ n m k. omega arith)
      (leaf_first no_items) s o (t ∙ ap (λ w. add_leaf w old.levels) e)

  pub grows_punct : (from c : ℕ) (joint : Bool) (spacing : Spacing) →
      made ≡ punct c spacing span → spacing ≡ (if joint then Joint else Alone) →
      span ≡ source old.source from (from + 1) →
      Grows at old new (punct_item old.source from c joint ∷ [])
  grows_punct from c joint spacing m j p = grows_made _ (cc)

  pub grows_ident : (start end : ℕ) (bytes text : List ℕ) → made ≡ ident bytes span →
      bytes ≡ text → IsUtf8 text → span ≡ source old.source start end →
      Grows at old new (ident_item old.source start end (chars text) ∷ [])
  grows_ident start end bytes text m b u p = grows_made _ (cc (encodes-chars text u))

  pub grows_literal : (start end : ℕ) (bytes text : List ℕ) → made ≡ literal bytes span →
      bytes ≡ text → IsUtf8 text → span ≡ source old.source start end →
      Grows at old new (literal_item old.source start end (chars text) ∷ [])
  grows_literal start end bytes text m b u p = grows_made _ (cc (encodes-chars text u))

-- a lifetime: an apostrophe and an identifier
pub grows_lifetime : (at : ℕ) (old mid new : State) (end : ℕ) (name : List ℕ) →
    Grows at old mid (punct_item old.source at 39 true ∷ []) →
    Grows at mid new (ident_item mid.source (at + 1) end name ∷ []) →
    Grows at old new (punct_item old.source at 39 true ∷ ident_item old.source (at + 1) end name
    ∷ [])
grows_lifetime at old mid new end name g h =
    grows_both at old mid new _ (λ n. ident_item n (at + 1) end name ∷ []) g h

-- the attribute of a doc comment
flat_doc : (number start end : ℕ) (inner : Bool) (text : List ℕ) →
    Flat number (doc_forest (source number start end) inner text)
    (doc_items number start end inner text)
flat_doc number start end true text =
    leaf_first (leaf_first
    (group_first Bracket start end (leaf_first (leaf_first (leaf_first no_items))) no_items))
flat_doc number start end false text =
    leaf_first (group_first Bracket start end (leaf_first (leaf_first (leaf_first no_items)))
    no_items)

doc_depth : (span : Span) (inner : Bool) (text : List ℕ) → depth (doc_forest span inner text) ≤ 1
doc_depth span true text = omega arith
doc_depth span false text = omega arith

pub grows_doc : (at : ℕ) (old new : State) (end : ℕ) (inner : Bool) (text : List ℕ)
    (span : Span) → (length old.groups ≡ most_levels → ⊥) → span ≡ source old.source at end →
    new.source ≡ old.source → new.groups ≡ old.groups →
    new.levels ≡ add_forest (doc_forest span inner text) old.levels →
    Grows at old new (doc_items old.source at end inner text)
grows_doc at old new end inner text span few p s o t =
    let shallow = doc_depth span inner text in
    grows_forest at old new (doc_forest span inner text) _ (λ n m k. omega arith)
    (rw p (flat_doc old.source at end inner text)) s o t

-- digits and a dot
pub grows_float : (at end : ℕ) (old new : State) (piece after : List ℕ) →
    end ≡ at + bytes piece → takes_point after ≡ true →
    Grows at old new (literal_item old.source at end piece ∷ []) →
    Grows at old new (pointed_items old.source at piece after)
grows_float at end old new piece after e p g = rw p (rw e at g)

up_to_front : (a : ℕ) (text : List ℕ) → (rest : List ℕ) × (text ≡ up_to a text ++ rest)
up_to_front a [] = ([], refl)
up_to_front a (c ∷ text) = elim (c == a) as (λ b. (rest : List ℕ)
    × (c ∷ text ≡ (if b then [] else c ∷ up_to a text) ++ rest)) [
      | true ↦ (c ∷ text, refl)
      | false ↦ let w = up_to_front a text in (w.0, ap (λ x. c ∷ x) w.1)
    ]

-- what is before a character of the piece is at the front of the text that the piece begins
pub digits_in_front : (a : ℕ) (piece after whole digits : List ℕ) → whole ≡ piece ++ after →
    digits ≡ up_to a piece → (rest : List ℕ) × (whole ≡ digits ++ rest)
digits_in_front a piece after whole digits e d =
    let w = up_to_front a piece in (w.0 ++ after, cc (w.1, append_assoc digits w.0 after))

pub grows_point : (at end dot : ℕ) (old mid new : State) (piece after digits : List ℕ)
    (joint : Bool) → end ≡ at + bytes piece → dot ≡ end - 1 → digits ≡ up_to 46 piece →
    joint ≡ makes_joint after → takes_point after ≡ false →
    Grows at old mid (literal_item old.source at dot digits ∷ []) →
    Grows at mid new (punct_item mid.source dot 46 joint ∷ []) →
    Grows at old new (pointed_items old.source at piece after)
grows_point at end dot old mid new piece after digits joint e d f j p g h =
    rw (p, ← e, ← d, ← f, ← j)
    (grows_both at old mid new _ (λ n. punct_item n dot 46 joint ∷ []) g h)
