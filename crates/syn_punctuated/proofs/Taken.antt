-- Reads of leaves take the trees that they return from those ahead.
use Rattle.std.proofs.Common.{arith}
use Rattle.std.proofs.Common.{◌≡◌, ◌∙◌, sym, ap, refl, Bool, List, []}
use Rattle.std.proofs.Common.{◌∷◌, ◌++◌, append_assoc, Option, Some, None}
use Rattle.std.specs.Prelude.{cond, IfSome}
use Rattle.tok_core.specs.Forest.{Tree, Forest, no_trees, tree, forest}
use Rattle.tok_buffer.specs.Descent.{descend}
use Rattle.tok_buffer.specs.EachRead.{First, Read}
use Rattle.tok_buffer.specs.Place.{Place}
use Rattle.tok_buffer.specs.Reads.{read_then, read_if}
use Rattle.tok_buffer.proofs.View.Unmarked.{plain-ahead}
use Rattle.tok_buffer.proofs.View.Readings.{Reading, never, one, more, IsOfLeaves}
use Rattle.tok_buffer.proofs.View.Unmarked.{trees_ahead-descend, trees_ahead-leave_finished}
use Rattle.tok_buffer.proofs.View.Unmarked.{trees_ahead as forest_ahead}
use Rattle.syn_punctuated.specs.Trees.{trees_ahead}

-- the trees of a forest, and those ahead
abbrev list_trees : Forest → List Tree
list_trees no_trees = []
list_trees (tree t f) = t ∷ list_trees f

listed_forest : (ts : List Tree) → list_trees (forest ts) ≡ ts
listed_forest [] = refl
listed_forest (t ∷ ts) = ap (λ us. t ∷ us) (listed_forest ts)

abbrev shown_at : Place → List Tree
shown_at p = list_trees (forest_ahead p)

ahead_is : (p : Place) → trees_ahead p ≡ shown_at p
ahead_is p = sym (listed_forest (trees_ahead p)) ∙ ap list_trees (plain-ahead p)

-- what is read is the first ahead, and what is ahead after it follows
abbrev Takes : List Tree → Option (List Tree × Place) → Type 0
Takes ts r = IfSome r (λ x. ts ≡ x.0 ++ shown_at x.1)

if_wanted : (b : Bool) (ts : List Tree) (t : Tree) (q : Place) → ts ≡ t ∷ shown_at q
    → Takes ts (cond b (Some (t ∷ [], q)) None)
if_wanted b ts t q h = grind arith

take_is : (wanted : Tree → Bool) → IsOfLeaves wanted → (p : Place)
    → Takes (shown_at p) (read_if wanted p)
take_is wanted h p = grind (arith, if_wanted, trees_ahead-leave_finished)

one_is : (wanted : Tree → Bool) → IsOfLeaves wanted → (p : Place)
    → Takes (shown_at p) (read_if wanted (descend p))
one_is wanted none p = grind (arith, trees_ahead-descend, take_is)

then_is : (ts : List Tree) (x : Option (List Tree × Place)) (g : Read)
    → Takes ts x → ((q : Place) → Takes (shown_at q) (g q)) → Takes ts (read_then x g)
then_is ts None g h k = tt
then_is ts (Some x) g h k = go (g x.1) (k x.1) where
  go : (y : Option (List Tree × Place)) → Takes (shown_at x.1) y
      → Takes ts (elim y [ Some q ↦ Some (x.0 ++ q.0, q.1) | None ↦ None ])
  go None e = tt
  go (Some q) e = h ∙ (ap (λ z. x.0 ++ z) e ∙ sym (append_assoc x.0 q.0 (shown_at q.1)))

reading_is : {read : Read} {first : First} → Reading read first → (p : Place)
    → Takes (shown_at p) (read p)
reading_is never p = tt
reading_is (one wanted leaves) p = one_is wanted leaves p
reading_is (more wanted leaves g h r) p =
    then_is _ (read_if wanted (descend p)) g (one_is wanted leaves p) (reading_is r)

pub reading_takes : {read : Read} {first : First} → Reading read first → (p : Place)
    → IfSome (read p) (λ x. trees_ahead p ≡ x.0 ++ trees_ahead x.1)
reading_takes {read} r p = go (read p) (reading_is r p) where
  go : (x : Option (List Tree × Place)) → Takes (shown_at p) x
      → IfSome x (λ y. trees_ahead p ≡ y.0 ++ trees_ahead y.1)
  go None h = tt
  go (Some x) h = ahead_is p ∙ (h ∙ ap (λ z. x.0 ++ z) (sym (ahead_is x.1)))
