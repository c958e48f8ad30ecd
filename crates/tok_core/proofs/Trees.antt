-- Forests of lists of trees, one tree at a time.
use Rattle.std.proofs.Common.{◌≡◌, ◌∙◌, sym, ap, refl, ℕ, ◌+◌, ◌<◌, ◌≤◌, eqb, ne_eqb, not, List}
use Rattle.std.proofs.Common.{[], ◌∷◌, ◌++◌, length, zero, suc, drop, get_or, arith}
use Rattle.std.proofs.lemmas.List.{drop_more}
use Rattle.tok_core.specs.declared.stream.TokenTree.{TokenTree}
use Rattle.tok_core.specs.Forest.{Forest, no_trees, tree, concat}
use Rattle.tok_core.specs.Filled.{has_trees}
use Rattle.tok_core.specs.Seen.{tree_of, trees_of}
use Rattle.tok_core.specs.Weight.{weight, tree_weight}

pub trees_of_push : (ts : List TokenTree) (t : TokenTree) → trees_of (ts ++ t ∷ [])
    ≡ concat (trees_of ts) (tree (tree_of t) no_trees)
trees_of_push [] t = refl
trees_of_push (u ∷ ts) t = ap (tree (tree_of u)) (trees_of_push ts t)

-- what is left of a list of trees, at the tree that a loop has reached
pub trees_of_drop : (ts : List TokenTree) (i : ℕ) (t : TokenTree) → i < length ts →
    t ≡ get_or ts i t → trees_of (drop i ts) ≡ tree (tree_of t) (trees_of (drop (i + 1) ts))
trees_of_drop ts i t h is =
    ap trees_of (drop_more ts i t h ∙ ap (λ u. u ∷ drop (i + 1) ts) (sym is))

-- what is left of a list of trees weighs no more than the whole
weight_drop : (ts : List TokenTree) (i : ℕ) → weight (trees_of (drop i ts)) ≤ weight (trees_of ts)
weight_drop ts zero = omega arith
weight_drop [] (suc i) = omega arith
weight_drop (t ∷ ts) (suc i) = omega (arith, weight_drop ts i)

-- no tree of a list weighs more than the list
weight_item : (ts : List TokenTree) (i : ℕ) (t : TokenTree) → i < length ts →
    t ≡ get_or ts i t → tree_weight (tree_of t) ≤ weight (trees_of ts)
weight_item ts i t h is = omega (arith, weight_drop ts i, ap weight (trees_of_drop ts i t h is))

pub weight_here : (ts : List TokenTree) (i : ℕ) (t : TokenTree) (f : Forest) → trees_of ts ≡ f →
    i < length ts → t ≡ get_or ts i t → tree_weight (tree_of t) ≤ weight f
weight_here ts i t f e h is = omega (arith, weight_item ts i t h is, ap weight e)

pub has_trees_of : (ts : List TokenTree) → has_trees (trees_of ts) ≡ not (eqb (length ts) 0)
has_trees_of [] = refl
has_trees_of (t ∷ ts) = ap not (sym (ne_eqb (length (t ∷ ts)) 0 (λ e. absurd (omega arith))))
