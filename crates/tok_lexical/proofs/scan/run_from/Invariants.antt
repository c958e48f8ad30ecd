use Rattle.std.proofs.Common.{◌≤◌, ◌-◌, length}
use Rattle.tok_lexical.specs.Private.Scans.{AllPass}
use Rattle.tok_lexical.proofs.scan.run_from.Given as goal

abbrev pub invariant-loop-end : goal.invariant-loop-end
invariant-loop-end g l =
    record {
      within : l.end ≤ length l.bytes;
      pass : AllPass (g.S.ByteTest.passes l.test) l.bytes 0 l.end;
    }

abbrev pub decreases-loop-end : goal.decreases-loop-end
decreases-loop-end g l = length l.bytes - l.end

abbrev pub invariant-loop-end-2 : goal.invariant-loop-end-2
invariant-loop-end-2 g l =
    record {
      within : l.end ≤ length l.bytes;
      pass : AllPass (g.S.ByteTest.passes l.test) l.bytes 0 l.end;
    }

abbrev pub decreases-loop-end-2 : goal.decreases-loop-end-2
decreases-loop-end-2 g l = length l.bytes - l.end
