use Rattle.std.proofs.Common.{◌≤◌, ◌-◌, length}
use Rattle.tok_lexical.specs.Numbers.{is_digit_or_underscore}
use Rattle.tok_lexical.specs.Private.Scans.{AllPass}
use Rattle.tok_values.proofs.integers.digits_len.Given as goal

abbrev pub invariant-loop-end : goal.invariant-loop-end
invariant-loop-end l =
    record {
      within : l.end ≤ length l.bytes;
      pass : AllPass (is_digit_or_underscore l.radix) l.bytes 0 l.end;
    }

abbrev pub decreases-loop-end : goal.decreases-loop-end
decreases-loop-end l = length l.bytes - l.end
