use Rattle.std.proofs.Common.{map, subst, sym}
use Rattle.syn_replay.specs.Agree.{ReportsAgree}
use Rattle.syn_replay.specs.Commands.{command_of}
use Rattle.syn_replay.specs.Meanings.{report_of}
use Rattle.syn_replay.specs.Session.Walk.{walk}
use Rattle.syn_replay.proofs.Views.Whole.{invisible_groups_do_not_matter}
use Rattle.syn_replay.proofs.agreement.both.replay_both.Goals as goal

pub returns-clause-agree : goal.returns-clause-agree
returns-clause-agree c differ transparent =
    let commands = map command_of c.args.commands.now in
    let agree =
    invisible_groups_do_not_matter c.args.left c.args.right commands differ transparent in
    subst (λ r. ReportsAgree r (report_of c.in_ok-right.right)) (sym c.in_ok-left.ensures.walk)
    (subst (ReportsAgree (walk c.args.left commands)) (sym c.in_ok-right.ensures.walk) agree)
