use Rattle.example_callers.specs.Loops.{one_more}
use Rattle.example_callers.proofs.loops.past_idents.Goals as goal

pub loop-next-preserved : goal.loop-next-preserved
loop-next-preserved c =
    let read = c.in-Some.ensures {u = tt} in
    let (passed, stays) = c.loop-next.invariant in (
      one_more _ _ _ _ passed read,
      c.stays_along.ensures.along _ _ _ stays
          (c.reads_go_on.ensures.leaves.idents.stays _ _ _ read),
    )
