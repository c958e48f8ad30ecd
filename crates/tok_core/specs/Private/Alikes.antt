-- Equality but for spans.
use Rattle.std.proofs.Common.{◌≡◌, ◌∙◌, sym, ap, refl, ℕ, Bool, true, ◌&&◌, ◌++◌, arith}
use Rattle.std.proofs.lemmas.Slice.Eq.{bytes_eq-Decides}
use Rattle.std.specs.Prelude.{◌==◌}
use Rattle.std.specs.Bool.{Decides}
use Rattle.std.specs.Cmp.{IsEquivalence, both_ways, equiv}
use Rattle.std.proofs.lemmas.Bool.{and_parts}
use Rattle.std.specs.Hash as fed
use Rattle.tok_lexical.specs.declared.delimiter.Delimiter.{Delimiter}
use Rattle.tok_leaves.specs.declared.punct.Spacing.{Spacing}
use Rattle.tok_core.specs.Code.{delimiter_code}
use Rattle.tok_leaves.specs.Leaves.{Leaf, ident, punct, literal}
use Rattle.tok_core.specs.Forest.{Tree, leaf, group, Forest, no_trees, tree}
use Rattle.tok_leaves.specs.Spans.{call_site}
use Rattle.tok_core.specs.Spanless.{leaf_spanless, spanless, tree_spanless, same_delimiter}
use Rattle.tok_core.specs.Spanless.{same_spacing, leaf_alike, alike, tree_alike, tree_input}
use Rattle.tok_core.specs.Spanless.{forest_input}

-- the test of delimiters is true of equal ones alone
same_delimiter_is : (d e : Delimiter) → same_delimiter d e ≡ true → d ≡ e
same_delimiter_is d e h = grind arith

-- the test of delimiters is true of each and itself
same_delimiter_refl : (d : Delimiter) → same_delimiter d d ≡ true
same_delimiter_refl d = grind arith

-- the test of spacings is true of equal ones alone
same_spacing_is : (j k : Spacing) → same_spacing j k ≡ true → j ≡ k
same_spacing_is j k e = grind arith

-- the test of spacings is true of each and itself
same_spacing_refl : (j : Spacing) → same_spacing j j ≡ true
same_spacing_refl j = grind arith

-- the test of numbers is true of equal ones alone
same_number : (c d : ℕ) → (c == d) ≡ true → c ≡ d
same_number c d e = grind arith

-- the test of numbers is true of each and itself
number_refl : (c : ℕ) → (c == c) ≡ true
number_refl c = grind arith

-- leaves that are alike are equal without their spans
leaf_alike_is : (l k : Leaf) → leaf_alike l k ≡ true → leaf_spanless l ≡ leaf_spanless k
leaf_alike_is (ident s a) (ident t b) e = ap (λ x. ident x call_site) ((bytes_eq-Decides s t).0 e)
leaf_alike_is (literal s a) (literal t b) e =
    ap (λ x. literal x call_site) ((bytes_eq-Decides s t).0 e)
leaf_alike_is (punct c j a) (punct d k b) e =
    let p = and_parts (c == d) (same_spacing j k) e in
    cc (same_number c d p.0, same_spacing_is j k p.1)
leaf_alike_is l k e = cc

mutual
  -- forests that are alike are equal without their spans
  alike_is : (f g : Forest) → alike f g ≡ true → spanless f ≡ spanless g
  alike_is no_trees no_trees e = refl
  alike_is (tree t f) (tree u g) e =
      let p = and_parts (tree_alike t u) (alike f g) e in
      cc (tree_alike_is t u p.0, alike_is f g p.1)
  alike_is f g e = cc

  -- trees that are alike are equal without their spans
  tree_alike_is : (t u : Tree) → tree_alike t u ≡ true → tree_spanless t ≡ tree_spanless u
  tree_alike_is (leaf l) (leaf k) e = ap leaf (leaf_alike_is l k e)
  tree_alike_is (group d f s) (group e g r) h =
      let p = and_parts (same_delimiter d e) (alike f g) h in
      cc (same_delimiter_is d e p.0, alike_is f g p.1)
  tree_alike_is t u e = cc

-- spans don't count
leaf_alike_spanless : (l k : Leaf) → leaf_alike l k ≡ leaf_alike (leaf_spanless l) (leaf_spanless k)
leaf_alike_spanless l k = grind arith

mutual
  -- spans don't count for forests
  alike_spanless : (f g : Forest) → alike f g ≡ alike (spanless f) (spanless g)
  alike_spanless no_trees no_trees = refl
  alike_spanless no_trees (tree u g) = refl
  alike_spanless (tree t f) no_trees = refl
  alike_spanless (tree t f) (tree u g) = λ i. tree_alike_spanless t u i && alike_spanless f g i

  -- spans don't count for trees
  tree_alike_spanless : (t u : Tree) →
      tree_alike t u ≡ tree_alike (tree_spanless t) (tree_spanless u)
  tree_alike_spanless (leaf l) (leaf k) = leaf_alike_spanless l k
  tree_alike_spanless (leaf l) (group d f s) = refl
  tree_alike_spanless (group d f s) (leaf k) = refl
  tree_alike_spanless (group d f s) (group e g r) =
      ap (λ b. same_delimiter d e && b) (alike_spanless f g)

-- each leaf is alike to itself
leaf_alike_refl : (l : Leaf) → leaf_alike l l ≡ true
leaf_alike_refl (ident s a) = (bytes_eq-Decides s s).1 refl
leaf_alike_refl (literal s a) = (bytes_eq-Decides s s).1 refl
leaf_alike_refl (punct c j a) =
    rw (number_refl c) (same_spacing_refl j)

mutual
  -- each forest is alike to itself
  alike_refl : (f : Forest) → alike f f ≡ true
  alike_refl no_trees = refl
  alike_refl (tree t f) = rw (tree_alike_refl t) (alike_refl f)

  -- each tree is alike to itself
  tree_alike_refl : (t : Tree) → tree_alike t t ≡ true
  tree_alike_refl (leaf l) = leaf_alike_refl l
  tree_alike_refl (group d f s) = rw (same_delimiter_refl d) (alike_refl f)

-- two forests are alike if and only if they are equal without their spans
pub alike_decides : (f g : Forest) → Decides (alike f g) (spanless f ≡ spanless g)
alike_decides f g = (
  alike_is f g,
  λ e. rw (alike_spanless f g, e) (alike_refl (spanless g)),
)

-- two trees are alike if and only if they are equal without their spans
pub tree_alike_decides : (t u : Tree) → Decides (tree_alike t u) (tree_spanless t ≡ tree_spanless u)
tree_alike_decides t u = (
  tree_alike_is t u,
  λ e. rw (tree_alike_spanless t u, e) (tree_alike_refl (tree_spanless u)),
)

-- a test that decides whether two things have one image is an equivalence
by_image : {A B : Type 0} (E : A → A → Bool) (image : A → B) →
    ((x y : A) → Decides (E x y) (image x ≡ image y)) → IsEquivalence E
by_image E image d =
    equiv (record {
      symm = λ x y. both_ways (E x y) (E y x) (λ e. (d y x).1 (sym ((d x y).0 e)))
          (λ e. (d x y).1 (sym ((d y x).0 e)));
      trans = λ x y z e h. (d x z).1 ((d x y).0 e ∙ (d y z).0 h);
    }) (λ x. (d x x).1 refl)

-- to be alike is an equivalence of forests
pub alike_equivalence : IsEquivalence alike
alike_equivalence = by_image alike spanless alike_decides

-- to be alike is an equivalence of trees
pub tree_alike_equivalence : IsEquivalence tree_alike
tree_alike_equivalence = by_image tree_alike tree_spanless tree_alike_decides

-- what is fed to a hasher has no spans
mutual
  -- a forest feeds a hasher no span
  pub forest_input_spanless : (f : Forest) → forest_input f ≡ forest_input (spanless f)
  forest_input_spanless no_trees = refl
  forest_input_spanless (tree t f) = λ i. tree_input_spanless t i ++ forest_input_spanless f i

  -- a tree feeds a hasher no span
  pub tree_input_spanless : (t : Tree) → tree_input t ≡ tree_input (tree_spanless t)
  tree_input_spanless (leaf (ident s a)) = refl
  tree_input_spanless (leaf (punct c j a)) = refl
  tree_input_spanless (leaf (literal s a)) = refl
  tree_input_spanless (group d f s) =
      ap (λ x. fed.u8 0 ++ fed.u8 (delimiter_code d) ++ x ++ fed.u8 255) (forest_input_spanless f)

-- forests that are alike feed a hasher alike
pub forest_input_alike : (f g : Forest) → alike f g ≡ true → forest_input f ≡ forest_input g
forest_input_alike f g e =
    forest_input_spanless f ∙ ap forest_input (alike_is f g e) ∙ sym (forest_input_spanless g)

-- trees that are alike feed a hasher alike
pub tree_input_alike : (t u : Tree) → tree_alike t u ≡ true → tree_input t ≡ tree_input u
tree_input_alike t u e =
    tree_input_spanless t ∙ ap tree_input (tree_alike_is t u e) ∙ sym (tree_input_spanless u)
