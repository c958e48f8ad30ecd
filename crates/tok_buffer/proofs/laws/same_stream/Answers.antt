use Rattle.std.proofs.Common.{◌∙◌, ap}
use Rattle.tok_core.proofs.Facts.{concat-none}
use Rattle.tok_buffer.specs.Rest.{rest}
use Rattle.tok_buffer.proofs.laws.same_stream.Goals as goal

pub returns-in_err-buffer-clause-places : goal.returns-in_err-buffer-clause-places
returns-in_err-buffer-clause-places c n f = concat-none f

pub returns-in_err-copy-clause-places : goal.returns-in_err-copy-clause-places
returns-in_err-copy-clause-places c n f = concat-none f

pub returns-clause-places : goal.returns-clause-places
returns-clause-places c n f = concat-none f

pub returns-clause-calls : goal.returns-clause-calls
returns-clause-calls c =
    let laid = c.in_ok-buffer.buffer.forest in
    c.in_ok-copy.ensures ∙ ap rest c.begin.ensures ∙ concat-none laid
    ∙ ap (λ b. b.forest) c.in_ok-buffer.ensures
