use Rattle.std.proofs.Common.{◌≡◌, ◌∙◌, ◌++◌, ap, refl}
use Rattle.tok_buffer.specs.Private.Layout.{entries_of, laid, layout}
use Rattle.tok_buffer.proofs.Layouts.{lies, forest_in_is}
use Rattle.tok_buffer.proofs.Levels.{end_completes}
use Rattle.tok_buffer.proofs.buffer.TokenBuffer.from_entries.Goals as goal

pub invariant_of-result : goal.invariant_of-result
invariant_of-result c =
    let built = c.in_ok-built.built in
    let entries = c.in_ok-laid.laid.items in
    let (f, d, e) = c.in_ok-built.ensures.reads in
    lies entries built.inner
    (end_completes (laid built.outer ++ layout built.inner) entries built refl
    (ap (λ l. l.outer) e) c.in_ok-laid.ensures)

pub returns-clause-denotes : goal.returns-clause-denotes
returns-clause-denotes c =
    let built = c.in_ok-built.built in
    let entries = c.in_ok-laid.laid.items in
    let (f, d, e) = c.in_ok-built.ensures.reads in
    let lie : entries ≡ entries_of built.inner =
    end_completes (laid built.outer ++ layout built.inner) entries built refl
    (ap (λ l. l.outer) e) c.in_ok-laid.ensures in
    (f, d, forest_in_is entries built.inner lie ∙ ap (λ l. l.inner) e)
