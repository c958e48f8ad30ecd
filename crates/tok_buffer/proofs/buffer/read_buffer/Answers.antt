use Rattle.std.proofs.Common.{◌≡◌, ◌++◌, refl}
use Rattle.tok_buffer.specs.Private.Layout.{entries_of, laid, layout}
use Rattle.tok_buffer.proofs.Layouts.{lies, forest_in_is}
use Rattle.tok_buffer.proofs.Levels.{end_completes}
use Rattle.tok_buffer.proofs.buffer.read_buffer.Goals as goal

pub invariant_of-result : goal.invariant_of-result
invariant_of-result c =
    let built = c.in-Ok.built in
    let entries = c.in_ok-into_entries-in-Ok.field-0.items in
    lies entries built.inner
    (end_completes (laid built.outer ++ layout built.inner) entries built refl
    c.in-Ok.ensures.closed c.in_ok-into_entries-in-Ok.ensures)

pub returns-in_ok-into_entries-in-Ok-clause-reads :
    goal.returns-in_ok-into_entries-in-Ok-clause-reads
returns-in_ok-into_entries-in-Ok-clause-reads c =
    let built = c.in-Ok.built in
    let entries = c.in_ok-into_entries-in-Ok.field-0.items in
    let e : entries ≡ entries_of built.inner =
    end_completes (laid built.outer ++ layout built.inner) entries built refl
    c.in-Ok.ensures.closed c.in_ok-into_entries-in-Ok.ensures in
    rw (forest_in_is entries built.inner e) c.in-Ok.ensures.reads
