use Rattle.std.proofs.lemmas.Grind.{common_steps}
use Rattle.std.proofs.Common.{arith}
use Rattle.std.specs.Str.{chars}
use Rattle.tok_lexical.proofs.Appended.{appended}
use Rattle.tok_leaves.proofs.Plain.{plain_ascii_test}
use Rattle.tok_leaves.proofs.literal.push_plain.Goals as goal

pub split_run-requires : goal.split_run-requires
split_run-requires c = record { ascii = plain_ascii_test }

pub returns-then-is_empty-clause-value : goal.returns-then-is_empty-clause-value
returns-then-is_empty-clause-value c = grind (arith, common_steps)

pub returns-clause-value : goal.returns-clause-value
returns-clause-value c =
    let cut = c.split_run.ensures in (
      chars c.split_run.result.0.now,
      cut.skips,
      appended _ _ _ cut.utf8.0 c.in_ok-push_str.ensures.bytes,
    )
