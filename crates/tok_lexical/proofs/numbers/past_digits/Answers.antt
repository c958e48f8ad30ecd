use Rattle.std.proofs.Common.{◌≡◌, true, false, arith, rules}
use Rattle.std.proofs.Math.Bool.{or-true, or-false}
use Rattle.std.specs.Char.{is_digit}
use Rattle.tok_lexical.specs.Numbers.{is_digit_or_underscore}
use Rattle.tok_lexical.proofs.Digits.{digits_more}
use Rattle.tok_lexical.proofs.numbers.past_digits.Goals as goal

pub loop-c-preserved-then-is_digit : goal.loop-c-preserved-then-is_digit
loop-c-preserved-then-is_digit c =
    let i = c.loop-c.invariant.2 in
    let b = c.loop-c.invariant.1 in
    let s = c.in-Some.ensures.shorter in
    let digit : true ≡ is_digit c.in-Some.c c.args.radix = search rules in
    let goes_on : is_digit_or_underscore c.args.radix c.in-Some.c ≡ true = search rules in
    let more = digits_more c.args.radix _ _ _ i.0 c.in-Some.c c.loop-c.found true i.1 i.2 i.3
    c.in-Some.ensures.chars goes_on digit in
    (c.in-Some.ensures.utf8, omega arith, (more.0, more.1, more.2, rw or-true at more.3))

pub loop-c-preserved : goal.loop-c-preserved
loop-c-preserved c =
    let i = c.loop-c.invariant.2 in
    let b = c.loop-c.invariant.1 in
    let s = c.in-Some.ensures.shorter in
    let digit : false ≡ is_digit c.in-Some.c c.args.radix = search rules in
    let goes_on : is_digit_or_underscore c.args.radix c.in-Some.c ≡ true = search rules in
    let more = digits_more c.args.radix _ _ _ i.0 c.in-Some.c c.loop-c.found false i.1 i.2 i.3
    c.in-Some.ensures.chars goes_on digit in
    (c.in-Some.ensures.utf8, omega arith, (more.0, more.1, more.2, rw or-false at more.3))
