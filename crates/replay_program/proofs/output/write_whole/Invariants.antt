use Rattle.std.proofs.Common.{◌≡◌, ◌++◌, List, ℕ}
use Rattle.std.specs.Io.KnownBytes.{Appends}
use Rattle.replay_program.proofs.Failing.{Counted}
use Rattle.replay_program.proofs.output.write_whole.Given as goal

abbrev pub invariant-loop-i : goal.invariant-loop-i
invariant-loop-i g l =
    (front : List ℕ) × (l.bytes ≡ front ++ l.rest)
    × Appends (g.S.Sink.contents l.fn.output) (g.S.Sink.contents l.output) front
    × Counted g.S.Sink.writes l.fn.output l._i front l.output
