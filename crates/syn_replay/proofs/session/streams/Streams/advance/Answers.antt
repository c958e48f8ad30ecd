use Rattle.std.proofs.lemmas.Bool.{and_from}
use Rattle.syn_replay.proofs.Walk.Closing.{advance_taken, advances_to, open_moved, scope_found}
use Rattle.syn_replay.proofs.Walk.Changes.{open_within}
use Rattle.syn_replay.proofs.Walk.Lines.{advance_fit}
use Rattle.syn_replay.proofs.Walk.Positions.{position_changed, position_ended}
use Rattle.syn_replay.proofs.session.streams.Streams.advance.Goals as goal
use Rattle.std.proofs.lemmas.Grind.{common_steps}
use Rattle.std.proofs.Common.{arith}
use Rattle.std.proofs.Common.{rules}

pub end-requires : goal.end-requires
end-requires c = grind (arith, common_steps, open_moved, c.move_to.ensures)

pub returns-then-not-is_or_inside : goal.returns-then-not-is_or_inside
returns-then-not-is_or_inside c =
    search (
      rules,
      common_steps,
      scope_found,
      open_within,
      advance_fit,
      advance_taken,
      and_from,
      advances_to,
      position_ended,
      position_changed,
    )
