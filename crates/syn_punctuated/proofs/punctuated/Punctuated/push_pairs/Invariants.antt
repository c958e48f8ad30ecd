use Rattle.std.proofs.Common.{◌≡◌, ◌+◌, length}
use Rattle.syn_punctuated.specs.Adds.{AddsPairs, EndsBare}
use Rattle.syn_punctuated.specs.Lists.{values_of, separators_of}
use Rattle.syn_punctuated.proofs.punctuated.Punctuated.push_pairs.Given as goal

abbrev pub invariant-loop-pair : goal.invariant-loop-pair
invariant-loop-pair g l = record {
  can : (goal.iterator-loop-pair g).can_next l.pair-iterator;
  ends : (goal.iterator-loop-pair g).is_finite l.pair-iterator;
  added : AddsPairs l.initial.self l.yielded l.self;
  bare : length (values_of l.self) ≡ length (separators_of l.self) + 1 → EndsBare l.yielded;
  trailing : length (values_of l.self) ≡ length (separators_of l.self) → (EndsBare l.yielded → ⊥);
}
