-- The trees that a list is written as.
use Rattle.std.specs.Prelude.{List, [], ◌∷◌}
use Rattle.tok_core.specs.Forest.{Forest, concat, no_trees}
use Rattle.syn_punctuated.specs.declared.pair.Pair.{Pair}
use Rattle.syn_punctuated.specs.declared.pair.Pair.TheVariants.{Punctuated, End}

module _ {X Y : Type 0} (value : X → Forest) (separator : Y → Forest) where
  -- values and separators in turn, a value first
  abbrev pub by_turns : List X → List Y → Forest
  by_turns [] ys = no_trees
  by_turns (x ∷ xs) [] = concat (value x) (by_turns xs [])
  by_turns (x ∷ xs) (y ∷ ys) = concat (value x) (concat (separator y) (by_turns xs ys))

  -- a pair's value, and the separator after it if there is one
  abbrev pub printed_pair : Pair X Y → Forest
  printed_pair (Punctuated x y) = concat (value x) (separator y)
  printed_pair (End x) = value x
