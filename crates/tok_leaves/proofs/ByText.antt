-- What is compared, ordered and hashed as its text is, is so by its text.
use Rattle.std.proofs.Common.{◌∙◌, sym, refl, ℕ, List, Some, nat_cmp}
use Rattle.std.proofs.lemmas.Slice.Eq.{bytes_eq-Decides}
use Rattle.std.specs.Prelude.{bytes_eq}
use Rattle.std.specs.Cmp.{Equal-is}
use Rattle.std.specs.Cmp.Lexicographic.{slice_cmp, texts_ties}
use Rattle.std.specs.Hash as fed
use Rattle.tok_leaves.specs.Laws.{IsByText}

pub by_text : {A : Type 0} (shown : A → List ℕ) →
    IsByText shown (λ x y. bytes_eq (shown x) (shown y))
    (λ x y. slice_cmp nat_cmp (shown x) (shown y))
    (λ x y. Some (slice_cmp nat_cmp (shown x) (shown y))) (λ x. fed.str (shown x))
by_text shown = record {
  equal = λ x y. bytes_eq-Decides (shown x) (shown y);
  order = λ x y. refl;
  agree = λ x y. (
    (
      λ e. (Equal-is (slice_cmp nat_cmp (shown x) (shown y))).0
          (sym (texts_ties (shown x) (shown y)) ∙ e),
      λ e. texts_ties (shown x) (shown y) ∙ (Equal-is (slice_cmp nat_cmp (shown x) (shown y))).1 e,
    ),
    refl,
  );
  hash = λ x. refl;
}
