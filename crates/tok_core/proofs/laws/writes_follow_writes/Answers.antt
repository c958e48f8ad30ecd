use Rattle.std.proofs.Common.{refl}
use Rattle.tok_core.proofs.Fronts.{front_first, front_second, on_both}
use Rattle.tok_core.specs.Laws.{followed_by}
use Rattle.tok_core.proofs.laws.writes_follow_writes.Goals as goal

pub returns : goal.returns
unfolding followed_by
returns c = record {
  first_fails = front_first;
  second_fails = front_second;
  both = on_both;
  is_both = λ first second. refl;
}
