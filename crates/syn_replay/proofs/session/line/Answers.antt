use Rattle.std.proofs.Common.{ap, map, rules}
use Rattle.syn_replay.specs.Commands as commands
use Rattle.syn_replay.specs.Commands.{command_of}
use Rattle.syn_replay.specs.Meanings.{kind_of, look_of, separator_of}
use Rattle.syn_replay.specs.Turns.{separated, terminated}
use Rattle.syn_replay.proofs.Walk.Lines.{line_by}
use Rattle.syn_replay.proofs.session.line.Goals as goal
use Rattle.std.proofs.lemmas.Grind.{common_steps}
use Rattle.std.proofs.Common.{arith}

pub returns-in-Optional : goal.returns-in-Optional
returns-in-Optional c =
    line_by _ _ (commands.optional (kind_of c.in-Optional.kind)) c.in-Optional.n
    c.args.command.now c.read-in-Optional.result _ _ (ap command_of c.in-Optional.is)
    (λ p q x h. search rules) c.read-in-Optional.ensures

pub returns-in-Empty : goal.returns-in-Empty
returns-in-Empty c = grind (arith, common_steps, line_by)

pub returns-in-Terminated : goal.returns-in-Terminated
returns-in-Terminated c =
    line_by _ _ (commands.list terminated (kind_of c.in-Terminated.kind)
    (separator_of c.in-Terminated.separator)) c.in-Terminated.n
    c.args.command.now c.read-in-Terminated.result _ _ (ap command_of c.in-Terminated.is)
    (λ p q x h. search rules) c.read-in-Terminated.ensures

pub returns-in-Separated : goal.returns-in-Separated
returns-in-Separated c =
    line_by _ _ (commands.list separated (kind_of c.in-Separated.kind)
    (separator_of c.in-Separated.separator)) c.in-Separated.n
    c.args.command.now c.read-in-Separated.result _ _ (ap command_of c.in-Separated.is)
    (λ p q x h. search rules) c.read-in-Separated.ensures

pub returns-in-Lookahead : goal.returns-in-Lookahead
returns-in-Lookahead c =
    line_by _ _ (commands.lookahead (map look_of c.in-Lookahead.looks.items)) c.in-Lookahead.n
    c.args.command.now c.read-in-Lookahead.result _ _ (ap command_of c.in-Lookahead.is)
    (λ p q x h. search rules) c.read-in-Lookahead.ensures

pub returns-in-StreamSpan : goal.returns-in-StreamSpan
returns-in-StreamSpan c = grind (arith, common_steps, line_by)

pub returns-in-CursorSpan : goal.returns-in-CursorSpan
returns-in-CursorSpan c = grind (arith, common_steps, line_by)

pub returns-in-PreviousSpan : goal.returns-in-PreviousSpan
returns-in-PreviousSpan c = grind (arith, common_steps, line_by)

pub returns-in-Tree : goal.returns-in-Tree
returns-in-Tree c =
    line_by _ _ commands.next_tree c.in-Tree.n
    c.args.command.now c.read-in-Tree.result _ _ (ap command_of c.in-Tree.is)
    (λ p q x h. search rules) c.read-in-Tree.ensures

pub returns-in-Rest : goal.returns-in-Rest
returns-in-Rest c =
    line_by _ _ commands.rest c.in-Rest.n
    c.args.command.now c.read-in-Rest.result _ _ (ap command_of c.in-Rest.is)
    (λ p q x h. search rules) c.read-in-Rest.ensures

pub returns-in-GroupTree : goal.returns-in-GroupTree
returns-in-GroupTree c =
    line_by _ _ commands.next_group c.in-GroupTree.n
    c.args.command.now c.read-in-GroupTree.result _ _ (ap command_of c.in-GroupTree.is)
    (λ p q x h. search rules) c.read-in-GroupTree.ensures
