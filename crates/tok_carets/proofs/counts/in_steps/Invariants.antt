use Rattle.std.proofs.Common.{◌≡◌, ◌+◌, ◌*◌, ◌-◌, ◌≤◌, count_by, take}
use Rattle.std.specs.Simd.Lanes.{Each1, sum_l}
use Rattle.memchr.specs.Find.{is_byte}
use Rattle.tok_carets.proofs.counts.in_steps.Given as goal

abbrev pub invariant-loop-done : goal.invariant-loop-done
invariant-loop-done l =
    record {
      within : l.done ≤ l.fn.steps;
      low : Each1 (λ n. n ≤ l.done) l.counts;
      counted : count_by (is_byte 10) (take l.fn.from l.fn.bytes) + sum_l l.counts
          ≡ count_by (is_byte 10) (take (l.fn.from + 64 * l.done) l.fn.bytes);
    }

abbrev pub decreases-loop-done : goal.decreases-loop-done
decreases-loop-done l = l.fn.steps - l.done
