use Rattle.std.proofs.Common.{◌+◌, Some, None, refl, ap, sym, ◌∙◌}
use Rattle.std.proofs.lemmas.List.{append-nil}
use Rattle.std.specs.Option.{option_map}
use Rattle.syn_replay.specs.Commands.{command_of}
use Rattle.replay_program.proofs.CommandLines.{read_more, read_stop, read_done}
use Rattle.replay_program.proofs.command_text.read_commands.Goals as goal

pub returns-in-Err-Unreadable : goal.returns-in-Err-Unreadable
returns-in-Err-Unreadable c =
    let r = rw c.in-Some.is at c.loop-left.invariant in (
      c.loop-left.number + 1,
      refl,
      read_stop c.args.lines c.first_line.result.1 c.in-Some.rest c.first_line.result.0.now
          c.loop-left.commands.items c.loop-left.number r c.first_line.ensures.lines
          (rw c.in-Err-Unreadable.field-0-is at c.in-Err-Unreadable.ensures),
    )

pub loop-left-preserved-in-Ok-None : goal.loop-left-preserved-in-Ok-None
loop-left-preserved-in-Ok-None c =
    let r = rw c.in-Some.is at c.loop-left.invariant in
    let (ok, said) = c.in-Ok-None.ensures in
    read_more c.args.lines c.first_line.result.1 c.in-Some.rest c.first_line.result.0.now
    c.loop-left.commands.items c.loop-left.commands.items c.loop-left.number None r
    c.first_line.ensures.lines c.first_line.ensures.concat c.first_line.ensures.utf8.1 ok (said
    ∙ ap (option_map command_of) c.in-Ok-None.field-0-is)
    (sym (append-nil c.loop-left.commands.items))

pub loop-left-preserved : goal.loop-left-preserved
loop-left-preserved c =
    let r = rw c.in-Some.is at c.loop-left.invariant in
    let (ok, said) = c.in-Ok-Some.ensures in
    read_more c.args.lines c.first_line.result.1 c.in-Some.rest c.first_line.result.0.now
    c.loop-left.commands.items c.push.new.self.items c.loop-left.number
    (Some c.in-Ok-Some.command) r c.first_line.ensures.lines c.first_line.ensures.concat
    c.first_line.ensures.utf8.1 ok (said
    ∙ ap (option_map command_of) c.in-Ok-Some.field-0-is) c.in_ok-push-in-Ok-Some.ensures.items

pub returns : goal.returns
returns c =
    read_done c.args.lines c.loop-left.commands.items c.loop-left.number
    (rw c.in_default.is at c.loop-left.invariant)
