use Rattle.std.proofs.Common.{◌≡◌, take}
use Rattle.tok_buffer.specs.Messages.{unboxed}
use Rattle.tok_buffer.proofs.error.ErrorClone.clone.Given as goal

abbrev pub invariant-loop-message : goal.invariant-loop-message
invariant-loop-message l = unboxed l.more.items ≡ unboxed (take l.message-index l.message-items)
