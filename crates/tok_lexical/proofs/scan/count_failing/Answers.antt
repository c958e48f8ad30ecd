use Rattle.std.proofs.Common.{arith, not, ◌+◌, take}
use Rattle.std.proofs.lemmas.List.{length-take-le}
use Rattle.std.proofs.lemmas.List.Sums.{count_by-le-length}
use Rattle.tok_lexical.proofs.Lanes.{counted_more}
use Rattle.tok_lexical.proofs.scan.count_failing.Goals as goal

pub overflow_add-count : goal.overflow_add-count
overflow_add-count g c =
    let passes = g.S.ByteTest.passes c.args.test.now in
    let bytes = c.args.bytes.now in
    let more = counted_more passes bytes c.loop-at.at _ _ c.loop-at.invariant.counted
    c.fails.ensures in
    let few = count_by-le-length (λ byte. not (passes byte)) (take (c.loop-at.at + 16) bytes) in
    let long = length-take-le (c.loop-at.at + 16) bytes (omega arith) in
    record { fits = omega (arith, more, few, long) }

pub loop-at-preserved : goal.loop-at-preserved
loop-at-preserved g c = record {
  within = omega arith;
  counted = counted_more (g.S.ByteTest.passes c.args.test.now) c.args.bytes.now c.loop-at.at _ _
      c.loop-at.invariant.counted c.fails.ensures;
}
