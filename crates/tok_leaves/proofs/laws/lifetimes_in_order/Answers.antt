use Rattle.std.proofs.Common.{◌∙◌, sym, nat_cmp}
use Rattle.std.specs.Cmp.{Equal-is}
use Rattle.std.specs.Cmp.Lexicographic.{slice_cmp, texts_ties}
use Rattle.tok_leaves.proofs.laws.lifetimes_in_order.Goals as goal

pub returns-clause-names : goal.returns-clause-names
returns-clause-names c x y = (
  λ e. (Equal-is (slice_cmp nat_cmp x y)).0 (sym (texts_ties x y) ∙ e),
  λ e. texts_ties x y ∙ (Equal-is (slice_cmp nat_cmp x y)).1 e,
)
