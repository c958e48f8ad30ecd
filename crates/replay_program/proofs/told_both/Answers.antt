use Rattle.std.proofs.Common.{◌∙◌, ◌++◌, ap, codes, map, refl}
use Rattle.replay_program.specs.Comparison.{both_status, facts_text}
use Rattle.replay_program.specs.Outcomes.{facts_of}
use Rattle.std.specs.Prelude.{string_bytes}
use Rattle.syn_replay.specs.Commands.{command_of}
use Rattle.syn_replay.specs.Meanings.{verdict_of}
use Rattle.syn_replay.specs.ReportText.{as_line, report_text}
use Rattle.syn_replay.specs.Session.Walk.{walk}
use Rattle.replay_program.proofs.told_both.Goals as goal

pub returns : goal.returns
returns c =
    let cs = map command_of c.args.commands.now in
    let left = walk c.args.left cs in
    let right = walk c.args.right cs in
    let both = c.in_ok-both.both in
    let has = c.in_ok-both.ensures in
    let end = as_line (codes "---") ++ facts_text (facts_of both.facts) in (
      record { left = left; right = right; facts = facts_of both.facts },
      record { left = refl; right = refl; facts = has.facts },
      c.in_ok-to_string.ensures.ok
          ∙ ap (λ w. w ++ (as_line (codes "---") ++ (string_bytes both.right ++ end))) has.left
          ∙ ap (λ w. report_text left ++ (as_line (codes "---") ++ (w ++ end))) has.right,
      c.status-status.ensures
          ∙ ap (λ v. both_status v (verdict_of both.right_verdict)) has.left_verdict
          ∙ ap (λ v. both_status left.verdict v) has.right_verdict,
    )
