use Rattle.std.proofs.Common.{◌≡◌, drop}
use Rattle.tok_core.specs.Forest.{concat}
use Rattle.tok_buffer.specs.Messages.{unboxed}
use Rattle.tok_buffer.specs.CompileErrors.{compile_errors}
use Rattle.tok_buffer.proofs.error.Error.to_compile_error.Given as goal

abbrev pub invariant-loop-message : goal.invariant-loop-message
invariant-loop-message l =
    concat l.tokens (compile_errors (unboxed (drop l.message-index l.message-items)))
    ≡ compile_errors l.self
