-- Trees that are put after others.
use Rattle.std.proofs.Common.{◌≡◌}
use Rattle.tok_core.specs.Forest.{Tree, Forest, no_trees, tree, concat}
use Rattle.tok_core.proofs.Facts.{joined_assoc}

pub then_forest : (old mid new a b : Forest) → mid ≡ concat old a → new ≡ concat mid b →
    new ≡ concat old (concat a b)
then_forest old mid new a b e h = rw (h, e) (joined_assoc old a b)

pub then_tree : (old mid new a : Forest) (t u : Tree) → mid ≡ concat old a →
    new ≡ concat mid (tree t no_trees) → t ≡ u → new ≡ concat old (concat a (tree u no_trees))
then_tree old mid new a t u e h same = rw (h, e, same) (joined_assoc old a (tree u no_trees))

pub first_tree : (old new : Forest) (t u : Tree) → new ≡ concat old (tree t no_trees) → t ≡ u →
    new ≡ concat old (tree u no_trees)
first_tree old new t u h same = cc
