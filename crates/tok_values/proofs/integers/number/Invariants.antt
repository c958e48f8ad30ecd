use Rattle.std.proofs.Common.{◌≡◌, length}
use Rattle.std.specs.Str.{chars}
use Rattle.std.specs.Prelude.{fold}
use Rattle.tok_values.specs.Numbers.{number}
use Rattle.tok_values.proofs.Digits.{step}
use Rattle.tok_values.proofs.integers.number.Given as goal

abbrev pub invariant-loop-byte : goal.invariant-loop-byte
invariant-loop-byte l = fold (step l.radix) l.value l.rest ≡ number l.radix (chars l.fn.digits)

abbrev pub decreases-loop-byte : goal.decreases-loop-byte
decreases-loop-byte l = length l.rest
