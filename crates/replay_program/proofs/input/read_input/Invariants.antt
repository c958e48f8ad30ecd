use Rattle.std.specs.Io.KnownBytes.{Consumes}
use Rattle.replay_program.proofs.Failing.{Counted}
use Rattle.replay_program.proofs.input.read_input.Given as goal

abbrev pub invariant-loop-i : goal.invariant-loop-i
invariant-loop-i g l =
    Consumes (g.S.Source.remaining l.fn.input) (g.S.Source.remaining l.input) l.bytes.items
    × Counted g.S.Source.reads l.fn.input l._i l.bytes.items l.input
