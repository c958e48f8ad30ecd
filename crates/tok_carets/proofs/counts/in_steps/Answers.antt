use Rattle.std.proofs.Common.{◌≡◌, ◌+◌, ◌*◌, ◌%◌, arith, ap, count_by, w8, w16, subst, sym, take}
use Rattle.memchr.specs.Find.{is_byte}
use Rattle.std.specs.Simd.Lanes.{chunk, zip2}
use Rattle.std.proofs.lemmas.Simd.{bytes_below, length-chunk, widens}
use Rattle.tok_carets.proofs.Lanes.{Counted, compared, count_more, counted, summed}
use Rattle.tok_carets.proofs.counts.in_steps.Goals as goal

pub loop-done-preserved : goal.loop-done-preserved
loop-done-preserved c =
    let p = is_byte 10 in
    let bytes = c.args.bytes.now in
    let counts = c.loop-done.counts in
    let done = c.loop-done.done in
    let from = c.args.from + 64 * done in
    let lanes = chunk from 64 bytes in
    let long = length-chunk from 64 bytes (omega arith) in
    let after =
    subst (λ ones. Counted p (done + 1) counts lanes (zip2 (λ a b. (a + b) % 256) counts ones))
    (sym (compared 64 10 lanes long))
    (counted p done counts lanes (omega arith) (omega arith) c.loop-done.invariant.low) in
    let more = count_more p bytes from 64 in
    let end : from + 64 ≡ c.args.from + 64 * (done + 1) = omega arith in
    let next = ap (λ n. count_by p (take n bytes)) end in
    let before = c.loop-done.invariant.counted in
    record {
      within = omega arith;
      low = after.0;
      counted = omega (arith, after.1, more, next, before);
    }

pub overflow_cast-wide : goal.overflow_cast-wide
overflow_cast-wide c = widens w8 w16 (omega arith) c.loop-done.counts c.loop-done.auto.counts.1

pub returns : goal.returns
returns c =
    let counts = c.loop-done.counts in
    let low = bytes_below counts c.loop-done.auto.counts.1 in
    let sum = summed 0 counts low (omega arith) in
    let all : c.loop-done.done ≡ c.args.steps = omega arith in
    let end =
    ap (λ n. count_by (is_byte 10) (take (c.args.from + 64 * n) c.args.bytes.now)) all in
    omega (arith, c.from.ensures, sum, end, c.loop-done.invariant.counted)
