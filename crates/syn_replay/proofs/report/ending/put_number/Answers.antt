use Rattle.std.proofs.Common.{◌≤◌, drop, length, arith, rules}
use Rattle.std.proofs.lemmas.Fmt.{length-decimal-le, IsAscii-decimal}
use Rattle.std.proofs.lemmas.Str.{IsAscii-append}
use Rattle.std.specs.Fmt.{decimal}
use Rattle.syn_replay.specs.declared.report.ending.TheConstants.{MOST_DIGITS}
use Rattle.syn_replay.proofs.report.ending.put_number.Goals as goal

pub write_digits-requires : goal.write_digits-requires
write_digits-requires c =
    let short : length (decimal c.args.number) ≤ MOST_DIGITS =
    length-decimal-le MOST_DIGITS c.args.number (omega arith) (omega arith) c.ranges.number.fits in
    (omega (arith, short, c.requires.0), search rules)

pub returns-clause-place : goal.returns-clause-place
returns-clause-place c =
    let short : length (decimal c.args.number) ≤ MOST_DIGITS =
    length-decimal-le MOST_DIGITS c.args.number (omega arith) (omega arith)
    c.ranges.number.fits in (
      omega (arith, short, c.write_digits.ensures.start),
      omega (arith, c.write_digits.ensures.start),
    )

pub returns-clause-ascii : goal.returns-clause-ascii
returns-clause-ascii c ascii =
    rw c.write_digits.ensures.written
    (IsAscii-append (decimal c.args.number) (drop c.args.end c.args.bytes.now)
    (IsAscii-decimal c.args.number c.ranges.number.fits) ascii)
