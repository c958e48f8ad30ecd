use Rattle.tok_buffer.specs.Messages.{AddsMessages}
use Rattle.tok_buffer.proofs.error.Error.extend.Given as goal

abbrev pub invariant-loop-another : goal.invariant-loop-another
invariant-loop-another g l = record {
  can : (goal.iterator-loop-another g).can_next l.another-iterator;
  ends : (goal.iterator-loop-another g).is_finite l.another-iterator;
  added : AddsMessages l.initial.self l.yielded l.self;
}
