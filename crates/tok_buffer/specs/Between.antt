-- The trees between two places of a scope.
use Rattle.std.specs.Prelude.{◌≡◌, ℕ, ◌+◌, ◌-◌, nat_le, if◌then◌else◌, List, [], ◌∷◌}
use Rattle.tok_core.specs.Erase.{erase}
use Rattle.tok_core.specs.Forest.{Tree, leaf, group, Forest, no_trees, tree, concat}
use Rattle.tok_core.specs.Weight.{weight, tree_weight}
use Rattle.tok_buffer.specs.Descent.{descend}
use Rattle.tok_buffer.specs.Order.{same_scope}
use Rattle.tok_buffer.specs.Place.{Frame, frame, Place, empty_place, at, pass}
use Rattle.tok_buffer.specs.Progress.{CallsLead}
use Rattle.tok_buffer.specs.Rest.{rest}
use Rattle.tok_buffer.specs.Trees.{PassesTrees}
use Rattle.tok_buffer.specs.View.{erased_ahead}

abbrev mutual
  -- The trees that end with the first so many openings, leaves and closings of a forest; of a group
  -- that ends later, those of its contents that do.
  pub first_trees : ℕ → Forest → Forest
  first_trees n no_trees = no_trees
  first_trees n (tree t f) =
      if nat_le (tree_weight t) n then tree t (first_trees (n - tree_weight t) f)
      else first_inside n t

  -- the first trees inside a group, whose opening counts as one; a leaf has none
  pub first_inside : ℕ → Tree → Forest
  first_inside n (leaf l) = no_trees
  first_inside n (group d inside span) = first_trees (n - 1) inside

-- the first trees ahead in frames, from the innermost out; the end of each frame counts as one
abbrev pub first_in : ℕ → List Frame → Forest
first_in n [] = no_trees
first_in n (frame o p a ∷ ls) = concat (first_trees n a) (first_in (n - (weight a + 1)) ls)

-- the trees from a place up to a count
abbrev pub trees_to : ℕ → Place → Forest
trees_to end empty_place = no_trees
trees_to end (at n s c l ls) = first_in (end - c) (l ∷ ls)

-- the trees from a place up to a later one of its scope; up to any other place there are none
abbrev pub between : Place → Place → Forest
between p empty_place = no_trees
between p (at n s c l ls) =
    if same_scope p (at n s c l ls) then trees_to c p else no_trees

-- the places to which a place leads by descents and by passing trees
pub data Follows (p : Place) : Place → Type 0 where
  from_here : Follows p p
  after_descent : (q : Place) → Follows p q → Follows p (descend q)
  after_tree : (q : Place) → Follows p q → Follows p (pass q)

-- no visible tree is lost: these trees, and those ahead of a place that follows, are all ahead
abbrev pub LosesNoTree : Place → Place → Forest → Type 0
LosesNoTree p q f = Follows p q → concat (erase f) (erased_ahead q) ≡ erased_ahead p

-- trees that are passed whole, and then the rest, are the rest before them
abbrev pub PassedJoin : Type 0
PassedJoin = (p q : Place) → PassesTrees p q → concat (between p q) (rest q) ≡ rest p

-- each call leads to a place that follows, and so do several in turn
pub record ReadsFollow : Type 0 where
  pub calls : CallsLead Follows
  pub along : (p q r : Place) → Follows p q → Follows q r → Follows p r
