-- Pruning keeps all that is visible, and leaves no invisible group without a visible tree.
use Rattle.std.proofs.Common.{◌≡◌, Bool, true, false, refl, arith}
use Rattle.std.specs.Prelude.{cond, ◌&&◌}
use Rattle.tok_lexical.specs.declared.delimiter.Delimiter.TheVariants.{None}
use Rattle.tok_leaves.specs.declared.span.Span.{Span}
use Rattle.tok_core.specs.Erase.{erase}
use Rattle.tok_core.specs.Filled.{filled, has_trees}
use Rattle.tok_core.specs.Forest.{leaf, group, Forest, no_trees, tree, concat}
use Rattle.tok_pruned.specs.Pruned.{pruned}

nothing : (f : Forest) → has_trees f ≡ false → f ≡ no_trees
nothing f h = grind arith

-- an invisible group that is kept or left out
erase_group : (b : Bool) (inside kept rest old : Forest) (s : Span)
    → has_trees (erase inside) ≡ b → erase kept ≡ erase inside → erase rest ≡ erase old
    → erase (cond b (tree (group None kept s) rest) rest) ≡ concat (erase inside) (erase old)
erase_group b inside kept rest old s e p q = grind (arith, nothing)

pub erase_pruned : (f : Forest) → erase (pruned f) ≡ erase f
erase_pruned no_trees = refl
erase_pruned (tree (leaf l) f) = rw (erase_pruned f) refl
erase_pruned (tree (group None inside s) f) =
    erase_group (has_trees (erase inside)) inside (pruned inside) (pruned f) f s refl
    (erase_pruned inside) (erase_pruned f)
erase_pruned (tree (group d inside s) f) = rw (erase_pruned inside, erase_pruned f) refl

pub first_of : (a b : Bool) → (a && b) ≡ true → a ≡ true
first_of a b h = grind arith

pub second_of : (a b : Bool) → (a && b) ≡ true → b ≡ true
second_of a b h = grind arith

filled_group : (b : Bool) (inside kept rest : Forest) (s : Span)
    → has_trees (erase inside) ≡ b → erase kept ≡ erase inside → filled kept ≡ true
    → filled rest ≡ true → filled (cond b (tree (group None kept s) rest) rest) ≡ true
filled_group b inside kept rest s e p q r = grind arith

pub filled_pruned : (f : Forest) → filled (pruned f) ≡ true
filled_pruned no_trees = refl
filled_pruned (tree (leaf l) f) = filled_pruned f
filled_pruned (tree (group None inside s) f) =
    filled_group (has_trees (erase inside)) inside (pruned inside) (pruned f) s refl
    (erase_pruned inside) (filled_pruned inside) (filled_pruned f)
filled_pruned (tree (group d inside s) f) = rw (filled_pruned inside, filled_pruned f) refl

kept_group : (b : Bool) (inside kept f rest : Forest) (s : Span) → has_trees (erase inside) ≡ b
    → (b && filled inside && filled f) ≡ true
    → (filled inside ≡ true → kept ≡ inside) → (filled f ≡ true → rest ≡ f)
    → cond b (tree (group None kept s) rest) rest ≡ tree (group None inside s) f
kept_group b inside kept f rest s e h p q = grind arith

pub pruned_filled : (f : Forest) → filled f ≡ true → pruned f ≡ f
pruned_filled no_trees h = refl
pruned_filled (tree (leaf l) f) h = rw (pruned_filled f h) refl
pruned_filled (tree (group None inside s) f) h =
    kept_group (has_trees (erase inside)) inside (pruned inside) f (pruned f) s refl h
    (pruned_filled inside) (pruned_filled f)
pruned_filled (tree (group d inside s) f) h =
    rw (
      pruned_filled inside (first_of (filled inside) (filled f) h),
      pruned_filled f (second_of (filled inside) (filled f) h),
    ) refl

pub pruned_twice : (f : Forest) → pruned (pruned f) ≡ pruned f
pruned_twice f = pruned_filled (pruned f) (filled_pruned f)
