use Rattle.std.proofs.Common.{arith, ◌<◌, length, subst, Bool}
use Rattle.std.specs.Fn.{CalledAtMut}
use Rattle.syn_punctuated.proofs.RetainSteps.{going_skips, going_swaps, next_pair}
use Rattle.syn_punctuated.specs.Retained.{TakesAtMut}
use Rattle.syn_punctuated.proofs.retain.retain_pairs.Goals.{then-test_value, else-test_value}
use Rattle.syn_punctuated.proofs.retain.retain_pairs.Goals as goal

pub test_value-requires : goal.test_value-requires
test_value-requires g c =
    let going = c.loop-i.invariant in
    next_pair (CalledAtMut g.F.FnMut) c.args.f.now c.args.pairs.now.items (TakesAtMut g.F.FnMut)
    c.requires c.loop-i.i c.loop-i.kept c.loop-i.pairs.items c.loop-i.f c.index_mut.result.now
    (omega (arith, going.long)) going c.index_mut.ensures.value

pub loop-i-preserved : goal.loop-i-preserved
loop-i-preserved g c =
    let going = c.loop-i.invariant in
    let sep = c.test_value.ensures.separator in
    let lt : c.loop-i.i < length c.loop-i.pairs.items = omega (arith, going.long) in
    let is = c.index_mut.ensures.value in
    let called =
    λ (b : Bool). CalledAtMut g.F.FnMut c.loop-i.f c.index_mut.result.now.0 b c.test_value.new.f
    c.test_value.new.pair.0 in
    elim c.if-test_value.branch [
      | then-test_value w ↦ rw (
        w.pairs-is,
        w.kept-is,
      ) (going_swaps _ _ _ c.loop-i.i c.loop-i.kept c.loop-i.pairs.items _
          c.index_mut.result.now _ c.test_value.new.pair w.swap.new.self.items lt going is sep
          (subst called w.if-test_value.true c.test_value.ensures.called) w.swap.ensures.by_index)
      | else-test_value w ↦ rw (
        w.pairs-is,
        w.kept-is,
      ) (going_skips _ _ _ c.loop-i.i c.loop-i.kept c.loop-i.pairs.items _
          c.index_mut.result.now _ c.test_value.new.pair lt going is sep
          (subst called w.if-test_value.false c.test_value.ensures.called))
    ]
