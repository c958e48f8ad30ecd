-- Puncts that are written one after the other.
use Rattle.std.proofs.Common.{◌≡◌, ◌<◌, ◌≤◌, ◌+◌, ap, refl, ℕ, zero, suc, true}
use Rattle.std.proofs.Common.{false, ◌&&◌, List, [], ◌∷◌, ◌++◌, length, take, drop, get_or}
use Rattle.std.proofs.Common.{arith}
use Rattle.std.specs.Prelude.{◌==◌}
use Rattle.std.specs.List.{list_all}
use Rattle.std.proofs.lemmas.List.{drop_more, take-append-drop, take_all, take_more}
use Rattle.tok_leaves.specs.declared.span.Span.{Span}
use Rattle.tok_core.specs.Forest.{Tree, leaf, Forest, no_trees, tree, forest, concat, AppendsFront}
use Rattle.tok_leaves.specs.Leaves.{punct}
use Rattle.tok_leaves.specs.Spans.{call_site}
use Rattle.tok_lexical.specs.Characters.{is_punct_or_apostrophe}
use Rattle.tok_core.proofs.Facts.{concat-none, joined_assoc}
use Rattle.tok_types.specs.Printed.{joint_puncts, puncts, spacing}

forest-append : (ts us : List Tree) → forest (ts ++ us) ≡ concat (forest ts) (forest us)
forest-append [] us = refl
forest-append (t ∷ ts) us = ap (tree t) (forest-append ts us)

puncts-length : (cs : List ℕ) (ss : List Span) → length cs ≡ length ss →
    length (joint_puncts cs ss) ≡ length cs
puncts-length [] ss h = refl
puncts-length (c ∷ []) ss h = grind arith
puncts-length (c ∷ (d ∷ cs)) [] h = absurd (omega (arith, h))
puncts-length (c ∷ (d ∷ cs)) (s ∷ ss) h =
    omega (arith, puncts-length (d ∷ cs) ss (omega (arith, h)))

at_index : (other : Tree) (span : Span) (cs : List ℕ) (ss : List Span) (i : ℕ) →
    length cs ≡ length ss → i < length ss → get_or (joint_puncts cs ss) i other
    ≡ leaf (punct (get_or cs i 0) (spacing (i + 1 == length ss)) (get_or ss i span))
at_index other span cs [] i h low = absurd (omega (arith, low))
at_index other span [] (s ∷ ss) i h low = absurd (omega (arith, h))
at_index other span (c ∷ []) (s ∷ ss) i h low = grind arith
at_index other span (c ∷ (d ∷ cs)) (s ∷ ss) zero h low = grind arith
at_index other span (c ∷ (d ∷ cs)) (s ∷ ss) (suc i) h low =
    let more = at_index other span (d ∷ cs) ss i (omega (arith, h)) (omega (arith, low)) in
    grind arith

-- the punct at an index
abbrev punct_of_several : (cs : List ℕ) (ss : List Span) (i : ℕ) → Tree
punct_of_several cs ss i =
    leaf (punct (get_or cs i 0) (spacing (i + 1 == length ss)) (get_or ss i call_site))

-- one punct further
pub puncts_step : (old before new : Forest) (cs : List ℕ) (ss : List Span) (i : ℕ) →
    length cs ≡ length ss → i < length ss
    → before ≡ concat old (forest (take i (joint_puncts cs ss))) →
    new ≡ concat before (tree (punct_of_several cs ss i) no_trees)
    → new ≡ concat old (forest (take (i + 1) (joint_puncts cs ss)))
puncts_step old before new cs ss i h low was now =
    let ts = joint_puncts cs ss in
    let t : Tree = punct_of_several cs ss i in
    let more : take (i + 1) ts ≡ take i ts ++ t ∷ [] =
    rw (← (at_index t call_site cs ss i h low))
    (take_more ts i t (omega (arith, h, low, puncts-length cs ss h))) in
    rw (now, was, more, forest-append, joined_assoc) refl

module _ (cs : List ℕ) (ss : List Span) (h : length cs ≡ length ss)
    (all : list_all is_punct_or_apostrophe cs ≡ true) where
  whole : puncts cs ss ≡ forest (joint_puncts cs ss)
  whole = grind arith

  -- all of them
  pub puncts_done : (old new : Forest) (i : ℕ) → length ss ≤ i →
      new ≡ concat old (forest (take i (joint_puncts cs ss))) → new ≡ concat old (puncts cs ss)
  puncts_done old new i past e = grind (arith, take_all, puncts-length, whole)

  -- or those before one that was refused
  pub puncts_stopped : (old new : Forest) (i : ℕ) → i < length ss →
      new ≡ concat old (forest (take i (joint_puncts cs ss))) →
      AppendsFront old (puncts cs ss) new
  puncts_stopped old new i low e =
      let ts = joint_puncts cs ss in
      let none : Tree = leaf (punct 0 (spacing true) call_site) in
      let t : Tree = get_or ts i none in
      let here : drop i ts ≡ t ∷ drop (i + 1) ts =
      drop_more ts i none (omega (arith, h, low, puncts-length cs ss h)) in (
        forest (take i ts),
        t,
        forest (drop (i + 1) ts),
        (let all = take-append-drop i ts in
            let parts = forest-append (take i ts) (drop i ts) in
            cc whole),
        e,
      )

-- nothing is written where the lengths differ, or where a character is no punct's
nothing : (old : Forest) (cs : List ℕ) (ss : List Span) →
    (length cs == length ss && list_all is_punct_or_apostrophe cs) ≡ false →
    old ≡ concat old (puncts cs ss)
nothing old cs ss e = grind (arith, concat-none)

pub not_as_many : (old : Forest) (cs : List ℕ) (ss : List Span) → (length cs ≡ length ss → ⊥) →
    old ≡ concat old (puncts cs ss)
not_as_many old cs ss h = grind (arith, nothing)

pub not_all_puncts : (old : Forest) (cs : List ℕ) (ss : List Span) →
    list_all is_punct_or_apostrophe cs ≡ false → old ≡ concat old (puncts cs ss)
not_all_puncts old cs ss h = grind (arith, nothing)
