-- Pieces, streams and lines compared one by one.
use Rattle.std.proofs.Common.{suc, Bool, ◌≡◌, ap, refl, ◌∙◌, sym, List, [], ◌∷◌, length}
use Rattle.std.specs.Prelude.{◌↔◌, true}
use Rattle.tok_core.specs.declared.stream.TokenTree.{TokenTree}
use Rattle.tok_core.specs.Forest.{Tree, Forest, tree}
use Rattle.tok_core.specs.Seen.{tree_of, trees_of}
use Rattle.syn_replay.proofs.Comparing.{Compares}
use Rattle.std.proofs.Common.{rules}

first_trees : (t u : Tree) (f g : Forest) → tree t f ≡ tree u g → (t ≡ u) × (f ≡ g)
first_trees t u f g e = (cc, cc)

same_lengths : (xs ys : List TokenTree) → trees_of xs ≡ trees_of ys → length xs ≡ length ys
same_lengths [] [] e = refl
same_lengths [] (y ∷ ys) e = absurd (cc)
same_lengths (x ∷ xs) [] e = absurd (cc)
same_lengths (x ∷ xs) (y ∷ ys) e =
    ap suc
    (same_lengths xs ys (first_trees (tree_of x) (tree_of y) (trees_of xs) (trees_of ys) e).1)

pub compares_trees : Compares (λ (xs ys : List TokenTree). trees_of xs ≡ trees_of ys)
    (λ x y. tree_of x ≡ tree_of y)
compares_trees = search (rules, first_trees, same_lengths)

-- of two streams, by the lists of their trees
pub of_streams : (b : Bool) (xs ys : List TokenTree) (f g : Forest) → trees_of xs ≡ f
    → trees_of ys ≡ g → (b ≡ true) ↔ (trees_of xs ≡ trees_of ys) → (b ≡ true) ↔ (f ≡ g)
of_streams b xs ys f g l r h = (λ t. sym l ∙ h.0 t ∙ r, λ e. h.1 (l ∙ e ∙ sym r))
