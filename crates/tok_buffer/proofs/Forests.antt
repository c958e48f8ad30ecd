-- Laws of forests.
use Rattle.std.proofs.Common.{◌≡◌, refl}
use Rattle.tok_core.specs.Forest.{Forest, no_trees, tree, concat, reverse_onto}

reversed_joined : (f g h : Forest) → reverse_onto f (concat g h) ≡ concat (reverse_onto f g) h
reversed_joined no_trees g h = refl
reversed_joined (tree t f) g h = reversed_joined f (tree t g) h

pub reversed_is : (f g : Forest) → reverse_onto f g ≡ concat (reverse_onto f no_trees) g
reversed_is f g = reversed_joined f no_trees g
