-- The erasure of two joined forests.
use Rattle.std.proofs.Common.{◌≡◌, ◌∙◌, sym, ap, refl}
use Rattle.tok_lexical.specs.declared.delimiter.Delimiter.TheVariants.{None}
use Rattle.tok_core.specs.Erase.{erase}
use Rattle.tok_core.specs.Forest.{leaf, group, Forest, no_trees, tree, concat}
use Rattle.tok_core.proofs.Facts.{joined_assoc}

pub erase_concat : (f g : Forest) → erase (concat f g) ≡ concat (erase f) (erase g)
erase_concat no_trees g = refl
erase_concat (tree (leaf l) f) g = ap (tree (leaf l)) (erase_concat f g)
erase_concat (tree (group None inside span) f) g =
    ap (concat (erase inside)) (erase_concat f g)
    ∙ sym (joined_assoc (erase inside) (erase f) (erase g))
erase_concat (tree (group d inside span) f) g =
    ap (tree (group d (erase inside) span)) (erase_concat f g)
