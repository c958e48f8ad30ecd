use Rattle.std.proofs.lemmas.Grind.{common_steps}
use Rattle.std.proofs.Common.{◌∙◌, [], sym, arith}
use Rattle.tok_lexical.proofs.Digits.{takes_no_suffix, no_suffix_start}
use Rattle.tok_lexical.proofs.Digits.{takes_number_suffix}
use Rattle.tok_lexical.proofs.numbers.past_number_suffix.Goals as goal

pub returns-then-not-starts_name : goal.returns-then-not-starts_name
returns-then-not-starts_name c = grind (arith, common_steps)

pub returns-then-not-starts_number_suffix : goal.returns-then-not-starts_number_suffix
returns-then-not-starts_number_suffix c = (
  [],
  takes_no_suffix c.args.radix _ (no_suffix_start c.args.radix _ _ c.in-Some.first
      c.in-Some.ensures.chars (sym c.starts_number_suffix.ensures
      ∙ c.if-not-starts_number_suffix.true)),
)

pub returns : goal.returns
returns c = rw c.unwrap_or.ensures
    (takes_number_suffix c.args.radix c.in-Some.first _ c.args.text c.past_identifier.result
    c.in-Some.ensures.chars (sym c.starts_number_suffix.ensures
    ∙ c.if-not-starts_number_suffix.false) c.past_identifier.ensures.tries)
