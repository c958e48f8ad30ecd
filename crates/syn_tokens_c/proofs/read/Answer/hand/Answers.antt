use Rattle.std.proofs.Common.{inl, rules}
use Rattle.syn_tokens_c.proofs.read.Answer.hand.Goals as goal

pub returns-in-Ok : goal.returns-in-Ok
returns-in-Ok c = inl (
  search rules,
  (c.in-Ok.kept.value, search rules, search rules, search rules, search rules, search rules),
)
