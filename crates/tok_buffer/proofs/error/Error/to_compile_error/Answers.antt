use Rattle.std.proofs.Common.{◌∙◌, ap}
use Rattle.tok_core.specs.Forest.{concat}
use Rattle.tok_buffer.specs.CompileErrors.{compile_error}
use Rattle.tok_buffer.proofs.CompileErrorLoops.{errors_step, errors_done}
use Rattle.tok_buffer.proofs.error.Error.to_compile_error.Goals as goal

pub loop-message-preserved : goal.loop-message-preserved
loop-message-preserved c = errors_step c.deref-message-items.result.now
    c.loop-message.message-index c.message-item.result c.loop-message.tokens
    c.write-in-loop-message.new.tokens _ c.loop-message-test.true c.message-item.is
    (c.in_ok-write-2.ensures ∙ ap (λ m. concat c.loop-message.tokens (compile_error m))
    c.deref-in-loop-message.ensures) c.loop-message.invariant

pub returns : goal.returns
returns c = errors_done c.deref-message-items.result.now c.loop-message.message-index
    c.loop-message.tokens _ c.loop-message-test.false c.loop-message.invariant
