use Rattle.tok_buffer.specs.Cursors.{place_of}
use Rattle.tok_buffer.specs.Progress.{remaining}
use Rattle.syn_parse.proofs.Runs.{Passed}
use Rattle.syn_parse.proofs.stream.ParseBuffer.parse_run_with_state.Given as goal

abbrev pub invariant-loop-next : goal.invariant-loop-next
invariant-loop-next g l =
    Passed g.R.Run.passes l.fn.self.place l.fn.run (place_of l.rest) l.state

abbrev pub decreases-loop-next : goal.decreases-loop-next
decreases-loop-next g l = remaining (place_of l.rest)
