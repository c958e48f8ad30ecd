use Rattle.std.proofs.Common.{◌∙◌, ap}
use Rattle.std.specs.Prelude.{slice_get}
use Rattle.tok_types.proofs.Numbers.{first_begins}
use Rattle.tok_types.proofs.texts.first_byte.Goals as goal

pub returns : goal.returns
returns c = first_begins c.args.text.now c.copied.result
    (c.copied.ensures ∙ c.first.ensures.value ∙ ap (λ t. slice_get t 0) c.as_bytes.ensures.value)
