use Rattle.std.proofs.Common.{◌∙◌, sym, ap}
use Rattle.tok_core.specs.Seen.{tree_of}
use Rattle.tok_core.specs.Forest.{tree_span}
use Rattle.tok_buffer.proofs.Spanned.{ends_are}
use Rattle.tok_buffer.proofs.error.ends.Goals as goal

pub returns-in-Some-Some : goal.returns-in-Some-Some
returns-in-Some-Some c =
    let a = c.in-Some-Some.first.now in
    let b = c.in-Some-Some.last.now in
    ap (λ s. (s, c.span-in-Some-Some.result)) c.span.ensures
    ∙ ap (λ s. (tree_span (tree_of a), s)) c.span-in-Some-Some.ensures
    ∙ sym (ends_are a b c.args.trees.now (sym c.in-Some-Some.ensures.value)
    (sym c.in-Some-Some.ensures'.value))
