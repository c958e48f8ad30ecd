-- A stream is pruned a tree at a time.
use Rattle.std.proofs.Common.{◌≡◌, List, [], ◌∷◌, length, Bool, true, false, refl, arith}
use Rattle.std.specs.Prelude.{cond}
use Rattle.tok_lexical.specs.declared.delimiter.Delimiter.{Delimiter}
use Rattle.tok_lexical.specs.declared.delimiter.Delimiter.TheVariants.{None}
use Rattle.tok_leaves.specs.declared.span.Span.{Span}
use Rattle.tok_core.proofs.Facts.{concat-none, has_trees_concat, joined_assoc}
use Rattle.tok_core.specs.Erase.{erase}
use Rattle.tok_core.specs.Filled.{has_trees}
use Rattle.tok_core.specs.Seen.{trees_of}
use Rattle.tok_core.specs.declared.stream.TokenTree.{TokenTree}
use Rattle.tok_core.specs.Forest.{Tree, leaf, group, Forest, no_trees, tree, concat}
use Rattle.tok_pruned.specs.Pruned.{pruned, is_kept}

-- something is left where something is visible
has_group : (b : Bool) (inside kept f : Forest) (s : Span) → has_trees (erase inside) ≡ b
    → has_trees (pruned f) ≡ has_trees (erase f)
    → has_trees (cond b (tree (group None kept s) (pruned f)) (pruned f))
    ≡ has_trees (concat (erase inside) (erase f))
has_group b inside kept f s e h = grind (arith, has_trees_concat)

-- a pruned forest is empty exactly if nothing in it was visible
pub has_pruned : (f : Forest) → has_trees (pruned f) ≡ has_trees (erase f)
has_pruned no_trees = refl
has_pruned (tree (leaf l) f) = refl
has_pruned (tree (group None inside s) f) =
    has_group (has_trees (erase inside)) inside (pruned inside) f s refl (has_pruned f)
has_pruned (tree (group d inside s) f) = refl

pub pruned_stays : (d : Delimiter) (inside : Forest) (s : Span) → is_kept d (pruned inside) ≡ true
    → pruned (tree (group d inside s) no_trees) ≡ tree (group d (pruned inside) s) no_trees
pruned_stays d inside s h = grind (arith, has_pruned)

pub pruned_goes : (d : Delimiter) (inside : Forest) (s : Span) → is_kept d (pruned inside) ≡ false
    → pruned (tree (group d inside s) no_trees) ≡ no_trees
pruned_goes d inside s h = grind (arith, has_pruned)

pruned_tree : (t : Tree) (f : Forest)
    → pruned (tree t f) ≡ concat (pruned (tree t no_trees)) (pruned f)
pruned_tree t f = grind arith

pub pruned_parts : (f g : Forest) → pruned (concat f g) ≡ concat (pruned f) (pruned g)
pruned_parts no_trees g = refl
pruned_parts (tree t f) g =
    rw (pruned_tree t (concat f g), pruned_parts f g, pruned_tree t f, joined_assoc) refl

-- a tree is taken off what is left
pub step_pruned : (kept new before after whole : Forest) (t : Tree)
    → new ≡ concat kept (pruned (tree t no_trees)) → concat kept (pruned before) ≡ whole
    → before ≡ tree t after → concat new (pruned after) ≡ whole
step_pruned kept new before after whole t n h b =
    rw (n, joined_assoc, ← (pruned_tree t after)) (rw b at h)

pub none_left : (ts : List TokenTree) → length ts ≡ 0 → trees_of ts ≡ no_trees
none_left [] e = refl
none_left (t ∷ ts) e = absurd (omega (arith, e))

pub all_pruned : (kept left whole : Forest) → left ≡ no_trees → concat kept (pruned left) ≡ whole
    → kept ≡ whole
all_pruned kept left whole e h = grind (arith, concat-none)

-- a group that stays is appended
pub stays_on : (kept new inside f : Forest) (t u : Tree) (d : Delimiter) (s : Span)
    → new ≡ concat kept (tree u no_trees) → u ≡ group d inside s → inside ≡ pruned f
    → t ≡ group d f s → is_kept d inside ≡ true → new ≡ concat kept (pruned (tree t no_trees))
stays_on kept new inside f t u d s n hu hi ht h = grind (arith, pruned_stays)

-- one that goes is not
pub goes_off : (kept inside f : Forest) (t : Tree) (d : Delimiter) (s : Span)
    → inside ≡ pruned f → t ≡ group d f s → is_kept d inside ≡ false
    → kept ≡ concat kept (pruned (tree t no_trees))
goes_off kept inside f t d s hi ht h = grind (arith, pruned_goes, concat-none)
