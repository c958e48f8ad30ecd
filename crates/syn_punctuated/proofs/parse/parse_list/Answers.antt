use Rattle.std.proofs.Common.{rules}
use Rattle.syn_punctuated.proofs.Runs.{bounded-more, so-far-more, run-bare, run-refused}
use Rattle.syn_punctuated.proofs.Runs.{run-turn_lost, run-stuck}
use Rattle.syn_punctuated.proofs.parse.parse_list.Goals as goal

pub returns-in_err-read_turn-clause-run : goal.returns-in_err-read_turn-clause-run
returns-in_err-read_turn-clause-run g c =
    run-refused _ _ _ _ _ _ _ _ _ _ _ _ c.loop-pairs.invariant.so_far
    c.in_err-read_turn.ensures (search rules)

pub returns-in-Bare-clause-run : goal.returns-in-Bare-clause-run
returns-in-Bare-clause-run g c =
    run-bare _ _ _ _ _ _ _ _ _ _ _ _ c.with_bare.ensures c.loop-pairs.invariant.so_far
    (rw c.in-Bare.is at c.in_ok-read_turn.ensures)

pub returns-in_err-push-in-Full-clause-run : goal.returns-in_err-push-in-Full-clause-run
returns-in_err-push-in-Full-clause-run g c =
    run-turn_lost _ _ _ _ _ _ _ _ _ _ _ _ _ c.loop-pairs.invariant.so_far
    (rw c.in-Full.is at c.in_ok-read_turn.ensures) (search rules)

pub returns-in_err-start-clause-run : goal.returns-in_err-start-clause-run
returns-in_err-start-clause-run g c =
    run-stuck _ _ _ _ _ _ _ _ _ _ _ _ _ _ c.loop-pairs.invariant.so_far
    (rw c.in-Full.is at c.in_ok-read_turn.ensures)
    (rw c.loop-pairs.invariant.here at c.in_err-start.ensures.progress) (search rules)

pub loop-pairs-preserved : goal.loop-pairs-preserved
loop-pairs-preserved g c = record {
  so_far = so-far-more _ _ _ _ _ _ _ _ _ _ _ _ _ c.loop-pairs.invariant.so_far
      (rw c.in-Full.is at c.in_ok-read_turn.ensures)
      (rw c.loop-pairs.invariant.here at c.in_ok-start.ensures.progress.1) (search rules);
  bounded = bounded-more _ _ (c.in-Full.value, c.in-Full.separator) _ _ _
      c.loop-pairs.invariant.bounded (search rules)
      (rw c.loop-pairs.invariant.here at c.in_ok-start.ensures.lowers);
  here = c.in_ok-start.ensures.progress.0;
}
