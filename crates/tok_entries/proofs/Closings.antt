-- A group closes around what is left of it, or its opening is taken back.
use Rattle.std.proofs.Common.{◌≡◌, List, [], ◌∷◌, ◌++◌, true, length, refl, ap, sym, arith}
use Rattle.std.proofs.Common.{length-append}
use Rattle.tok_lexical.specs.declared.delimiter.Delimiter.{Delimiter}
use Rattle.tok_lexical.specs.declared.delimiter.Delimiter.TheVariants.{Parenthesis, Brace, Bracket, None}
use Rattle.tok_leaves.specs.declared.span.Span.{Span}
use Rattle.tok_core.specs.Building.{Levels, add_forest, opened, Closes}
use Rattle.tok_core.specs.Filled.{has_trees}
use Rattle.tok_core.specs.Forest.{group, Forest, no_trees, tree, concat}
use Rattle.tok_core.proofs.Facts.{concat-none}
use Rattle.tok_pruned.proofs.Streams.{has_pruned}
use Rattle.tok_pruned.specs.Pruned.{pruned}
use Rattle.tok_entries.proofs.Once.{fronts, rests, head}

pub kept_visible : (d : Delimiter) (f : Forest) (s : Span) → (d ≡ None → ⊥)
    → pruned (tree (group d f s) no_trees) ≡ tree (group d (pruned f) s) no_trees
kept_visible None f s h = absurd (h refl)
kept_visible Parenthesis f s h = refl
kept_visible Brace f s h = refl
kept_visible Bracket f s h = refl

pub kept_filled : (d : Delimiter) (f : Forest) (s : Span) → has_trees (pruned f) ≡ true
    → pruned (tree (group d f s) no_trees) ≡ tree (group d (pruned f) s) no_trees
kept_filled None f s h =
    rw (← has_pruned f, h)
kept_filled Parenthesis f s h = refl
kept_filled Brace f s h = refl
kept_filled Bracket f s h = refl

pub left_out : (d : Delimiter) (f : Forest) (s : Span) → d ≡ None → pruned f ≡ no_trees
    → pruned (tree (group d f s) no_trees) ≡ no_trees
left_out d f s e h =
    rw (e, ← has_pruned f, h)

-- two lists with one element more
outer_same : (xs ys : List Forest) (x y : Forest) → xs ++ x ∷ [] ≡ ys ++ y ∷ [] → xs ≡ ys
outer_same xs ys x y e =
    fronts xs ys (x ∷ []) (y ∷ [])
    (omega (arith, ap length e, length-append xs (x ∷ []), length-append ys (y ∷ []))) e

inner_same : (xs ys : List Forest) (x y : Forest) → xs ++ x ∷ [] ≡ ys ++ y ∷ [] → x ≡ y
inner_same xs ys x y e =
    head x y [] [] (rests xs ys (x ∷ []) (y ∷ [])
    (omega (arith, ap length e, length-append xs (x ∷ []), length-append ys (y ∷ []))) e)

same_levels : (outer : List Forest) (inner : Forest) (new : Levels) → new.outer ≡ outer
    → new.inner ≡ inner → new ≡ record { outer = outer; inner = inner }
same_levels outer inner new p q = rw (← p, ← q)

pub taken_back : (old new around : Levels) (d : Delimiter) (f : Forest) (s : Span) → d ≡ None
    → old ≡ opened new → old ≡ add_forest (pruned f) (opened around)
    → new ≡ add_forest (pruned (tree (group d f s) no_trees)) around
taken_back old new around d f s hd hn ho =
    let both : opened new ≡ add_forest (pruned f) (opened around) = cc in
    let outers : new.outer ++ new.inner ∷ [] ≡ around.outer ++ around.inner ∷ [] =
    ap (λ x. x.outer) both in
    let empty : pruned f ≡ no_trees = sym (ap (λ x. x.inner) both) in
    same_levels around.outer (concat around.inner (pruned (tree (group d f s) no_trees))) new
    (outer_same new.outer around.outer new.inner around.inner outers)
    (cc (
      inner_same new.outer around.outer new.inner around.inner outers,
      concat-none around.inner,
      left_out d f s hd empty,
    ))

pub closed : (old new around : Levels) (d : Delimiter) (f : Forest) (s : Span)
    → pruned (tree (group d f s) no_trees) ≡ tree (group d (pruned f) s) no_trees
    → Closes d s old new → old ≡ add_forest (pruned f) (opened around)
    → new ≡ add_forest (pruned (tree (group d f s) no_trees)) around
closed old new around d f s keep (g, hg, hn) ho =
    let outers : new.outer ++ g ∷ [] ≡ around.outer ++ around.inner ∷ [] =
    cc in
    same_levels around.outer (concat around.inner (pruned (tree (group d f s) no_trees))) new
    (outer_same new.outer around.outer g around.inner outers)
    (cc (inner_same new.outer around.outer g around.inner outers))

-- the level that is closed is the innermost one, of a tree at least or in visible delimiters
pub closed_visible : (old new around : Levels) (d : Delimiter) (f : Forest) (s : Span)
    → (d ≡ None → ⊥) → Closes d s old new → old ≡ add_forest (pruned f) (opened around)
    → new ≡ add_forest (pruned (tree (group d f s) no_trees)) around
closed_visible old new around d f s h c e =
    closed old new around d f s (kept_visible d f s h) c e

pub closed_filled : (old new around : Levels) (d : Delimiter) (f : Forest) (s : Span)
    → has_trees old.inner ≡ true → Closes d s old new → old ≡ add_forest (pruned f) (opened around)
    → new ≡ add_forest (pruned (tree (group d f s) no_trees)) around
closed_filled old new around d f s h c e =
    closed old new around d f s (kept_filled d f s (rw e at h)) c e
