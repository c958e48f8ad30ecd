-- Erasure and filling, one tree at a time.
use Rattle.std.proofs.Common.{arith, ◌≡◌, ◌∙◌, sym, ap, refl, true, false, ◌&&◌, ◌||◌}
use Rattle.std.proofs.Math.Bool.{and-true}
use Rattle.tok_lexical.specs.declared.delimiter.Delimiter.TheVariants.{None}
use Rattle.tok_leaves.specs.declared.span.Span.{Span}
use Rattle.tok_core.specs.Erase.{erase}
use Rattle.tok_core.specs.Filled.{filled, has_trees}
use Rattle.tok_core.specs.Forest.{Tree, leaf, group, Forest, no_trees, tree, concat, reverse_onto}

pub concat-none : (f : Forest) → concat f no_trees ≡ f
concat-none no_trees = refl
concat-none (tree t f) = ap (tree t) (concat-none f)

pub joined_assoc : (f g h : Forest) → concat (concat f g) h ≡ concat f (concat g h)
joined_assoc no_trees g h = refl
joined_assoc (tree t f) g h = ap (tree t) (joined_assoc f g h)

pub erase_tree : (t : Tree) (f : Forest) → erase (tree t f) ≡ concat (erase (tree t no_trees))
    (erase f)
erase_tree (leaf l) f = refl
erase_tree (group None inside span) f = ap (λ g. concat g (erase f))
    (sym (concat-none (erase inside)))
erase_tree (group d inside span) f = refl

pub has_trees_concat : (f g : Forest) → has_trees (concat f g) ≡ (has_trees f || has_trees g)
has_trees_concat no_trees g = refl
has_trees_concat (tree t f) g = refl

pub filled_tree : (t : Tree) (f : Forest) → filled (tree t f)
    ≡ (filled (tree t no_trees) && filled f)
filled_tree (leaf l) f = refl
filled_tree (group None inside span) f = simp and-true
filled_tree (group d inside span) f = simp and-true

-- a filled forest has a visible tree where it has any
filled_seen : (f : Forest) → filled f ≡ true → has_trees (erase f) ≡ has_trees f
filled_seen no_trees e = refl
filled_seen (tree (leaf l) f) e = refl
filled_seen (tree (group None inside span) f) e =
    let joined = has_trees_concat (erase inside) (erase f) in grind arith
filled_seen (tree (group d inside span) f) e = refl

-- so an invisible group that is not empty is filled where its content is
pub filled_invisible : (f : Forest) (span : Span) → has_trees f ≡ true →
    filled f ≡ filled (tree (group None f span) no_trees)
filled_invisible f span seen = let visible = filled_seen f in grind arith

pub filled_stops : (t : Tree) (f : Forest) → filled (tree t no_trees) ≡ false → filled (tree t f)
    ≡ false
filled_stops t f e = filled_tree t f ∙ ap (λ b. b && filled f) e

reversed_twice : (f g h : Forest) → reverse_onto (reverse_onto f g) h ≡ reverse_onto g (concat f h)
reversed_twice no_trees g h = refl
reversed_twice (tree t f) g h = reversed_twice f (tree t g) h

pub reversed_back : (f : Forest) → reverse_onto (reverse_onto f no_trees) no_trees ≡ f
reversed_back f = reversed_twice f no_trees no_trees ∙ concat-none f
