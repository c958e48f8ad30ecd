-- Trees still to be compared.
use Rattle.std.proofs.Common.{◌≡◌, ◌∙◌, sym, ap, refl, ◌+◌, List, [], ◌∷◌, ◌++◌, length, Bor, arith}
use Rattle.std.proofs.lemmas.List.{nil_from_length}
use Rattle.tok_lexical.specs.declared.delimiter.Delimiter.TheVariants.{None}
use Rattle.tok_leaves.specs.declared.span.Span.{Span}
use Rattle.tok_core.specs.declared.stream.TokenTree.{TokenTree}
use Rattle.tok_core.specs.Erase.{erase}
use Rattle.tok_core.specs.Forest.{Tree, group, Forest, no_trees, tree, concat}
use Rattle.tok_core.specs.Private.Pending.{pending, pending_weight}
use Rattle.tok_core.specs.Seen.{tree_of, trees_of}
use Rattle.tok_core.specs.Weight.{weight, tree_weight}
use Rattle.tok_core.proofs.Facts.{concat-none, joined_assoc, erase_tree}

-- lists of trees, of which the last comes first
abbrev Stack : Type 0
Stack = List (Bor (List TokenTree))

-- what lies on top comes first
pending_append : (stack : Stack) (top : Bor (List TokenTree)) → pending (stack ++ top ∷ [])
    ≡ concat (erase (trees_of top.now)) (pending stack)
pending_append [] top = sym (concat-none (erase (trees_of top.now)))
pending_append (ts ∷ stack) top =
    ap (λ f. concat f (erase (trees_of ts.now))) (pending_append stack top)
    ∙ joined_assoc (erase (trees_of top.now)) (pending stack) (erase (trees_of ts.now))

pending_weight_append : (stack : Stack) (top : Bor (List TokenTree)) →
    pending_weight (stack ++ top ∷ []) ≡ pending_weight stack + weight (trees_of top.now)
pending_weight_append [] top = omega arith
pending_weight_append (ts ∷ stack) top = omega (arith, pending_weight_append stack top)

-- a stack whose top holds nothing
pub record Popped (old new : Stack) : Type 0 where
  pub same : pending new ≡ pending old
  pub weight : pending_weight new ≡ pending_weight old

pub popped_none : (new : Stack) (top : Bor (List TokenTree)) → length top.now ≡ 0 →
    Popped (new ++ top ∷ []) new
popped_none new top h =
    let nothing = nil_from_length top.now h in
    record {
      same = rw (pending_append, nothing) refl;
      weight = omega
          (arith, pending_weight_append new top, ap (λ ts. weight (trees_of ts)) nothing);
    }

-- a tree taken from the top
pub record Taken (old new : Stack) (t : Tree) : Type 0 where
  pub same : pending old ≡ concat (erase (tree t no_trees)) (pending new)
  pub weight : pending_weight old ≡ tree_weight t + pending_weight new

pub takes_top : (rest : Stack) (top left : Bor (List TokenTree)) (t : TokenTree) →
    top.now ≡ t ∷ left.now → Taken (rest ++ top ∷ []) (rest ++ left ∷ []) (tree_of t)
takes_top rest top left t h = record {
  same = rw (pending_append rest top, pending_append rest left, h, erase_tree)
      (joined_assoc (erase (tree (tree_of t) no_trees)) _ (pending rest));
  weight = omega (
    arith,
    pending_weight_append rest top,
    pending_weight_append rest left,
    ap (λ ts. weight (trees_of ts)) h,
  );
}

-- an invisible group taken from the top, whose content comes in its place
pub content_stands_in : (rest new : Stack) (top left : Bor (List TokenTree)) (t : TokenTree)
    (inside : Forest) (span : Span) (content : Bor (List TokenTree)) →
    top.now ≡ t ∷ left.now → tree_of t ≡ group None inside span →
    trees_of content.now ≡ inside → new ≡ rest ++ left ∷ []
    → (pending (new ++ content ∷ []) ≡ pending (rest ++ top ∷ []))
    × (pending_weight (new ++ content ∷ []) + 2 ≡ pending_weight (rest ++ top ∷ []))
content_stands_in rest new top left t inside span content h is e n =
    let taken = takes_top rest top left t h in (
      rw (taken.same, is, pending_append new content, e, n, concat-none) refl,
      omega (
        arith,
        ap pending_weight n,
        pending_weight_append new content,
        ap weight e,
        taken.weight,
        ap tree_weight is,
      ),
    )
