use Rattle.std.proofs.Common.{◌∙◌, ap}
use Rattle.std.specs.Prelude.{◌==◌}
use Rattle.std.specs.List.{list_any}
use Rattle.std.proofs.lemmas.List.{take_all}
use Rattle.tok_lexical.proofs.BareReturns.{return_byte}
use Rattle.tok_lexical.proofs.contents.has_return.Goals as goal

pub returns : goal.returns
returns c =
    let whole = take_all c.loop-byte.byte-index c.as_bytes-byte-items.result.now
    c.loop-byte-test.false in
    c.loop-byte.invariant
    ∙ ap (list_any (λ b. b == 13)) (whole ∙ c.as_bytes-byte-items.ensures.value)
    ∙ return_byte c.args.text.now c.utf8.text
