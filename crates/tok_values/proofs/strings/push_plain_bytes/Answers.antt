use Rattle.std.proofs.Common.{◌≡◌, ◌∙◌, ◌++◌, ap, length, rules, true}
use Rattle.std.specs.Str.{chars}
use Rattle.tok_lexical.proofs.Appended.{appended, none_appended}
use Rattle.tok_values.proofs.Runs.{plain_ascii_test, run_bytes}
use Rattle.tok_values.proofs.strings.push_plain_bytes.Goals as goal

pub split_run-requires : goal.split_run-requires
split_run-requires c = record { ascii = plain_ascii_test true }

pub returns-then-is_empty-clause-value : goal.returns-then-is_empty-clause-value
returns-then-is_empty-clause-value c =
    let cut = c.split_run.ensures in
    let none : length c.split_run.result.0.now ≡ 0 = search rules in (
      chars c.split_run.result.0.now,
      cut.skips,
      none_appended _ _ cut.utf8.0 none
          ∙ ap (λ w. c.args.to.now.items ++ w) (run_bytes _ cut.skips.pass),
    )

pub returns-clause-value : goal.returns-clause-value
returns-clause-value c =
    let cut = c.split_run.ensures in (
      chars c.split_run.result.0.now,
      cut.skips,
      appended _ _ _ cut.utf8.0 (c.in_ok-extend_from_slice.ensures.items
          ∙ ap (λ w. w ++ c.as_bytes.result.now) c.in_ok-reserve.ensures.items
          ∙ ap (λ w. c.args.to.now.items ++ w) c.as_bytes.ensures.value)
          ∙ ap (λ w. c.args.to.now.items ++ w) (run_bytes _ cut.skips.pass),
    )
