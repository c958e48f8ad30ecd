use Rattle.std.proofs.Common.{◌≡◌, ◌∙◌, ◌++◌, ap, length, rules, false}
use Rattle.std.specs.Str.{chars}
use Rattle.tok_lexical.proofs.Appended.{appended, none_appended}
use Rattle.tok_values.proofs.Runs.{plain_ascii_test}
use Rattle.tok_values.proofs.strings.push_plain.Goals as goal

pub split_run-requires : goal.split_run-requires
split_run-requires c = record { ascii = plain_ascii_test false }

pub returns-then-is_empty-clause-value : goal.returns-then-is_empty-clause-value
returns-then-is_empty-clause-value c =
    let cut = c.split_run.ensures in
    let none : length c.split_run.result.0.now ≡ 0 = search rules in
    (chars c.split_run.result.0.now, cut.skips, none_appended _ _ cut.utf8.0 none)

pub returns-clause-value : goal.returns-clause-value
returns-clause-value c =
    let cut = c.split_run.ensures in (
      chars c.split_run.result.0.now,
      cut.skips,
      appended _ _ _ cut.utf8.0 (c.in_ok-push_str.ensures.bytes
          ∙ ap (λ w. w ++ c.split_run.result.0.now) c.in_ok-reserve.ensures.bytes),
    )
