use Rattle.std.proofs.Common.{◌≡◌, ◌-◌, ◌≤◌, count_by, length, not, take}
use Rattle.tok_lexical.proofs.scan.count_failing.Given as goal

abbrev pub invariant-loop-at : goal.invariant-loop-at
invariant-loop-at g l =
    record {
      within : l.at ≤ length l.bytes;
      counted : l.count
          ≡ count_by (λ byte. not (g.S.ByteTest.passes l.test byte)) (take l.at l.bytes);
    }

abbrev pub decreases-loop-at : goal.decreases-loop-at
decreases-loop-at g l = length l.bytes - l.at

abbrev pub invariant-loop-at-2 : goal.invariant-loop-at-2
invariant-loop-at-2 g l =
    record {
      within : l.at ≤ length l.bytes;
      counted : l.count
          ≡ count_by (λ byte. not (g.S.ByteTest.passes l.test byte)) (take l.at l.bytes);
    }

abbrev pub decreases-loop-at-2 : goal.decreases-loop-at-2
decreases-loop-at-2 g l = length l.bytes - l.at
