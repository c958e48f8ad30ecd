use Rattle.std.proofs.lemmas.Grind.{common_steps}
use Rattle.std.proofs.Common.{◌≡◌, ◌∙◌, sym, ap, arith}
use Rattle.tok_buffer.specs.Moves.{frames_at}
use Rattle.tok_buffer.specs.Private.Layout.{entry_here, entry_of, leaf_in}
use Rattle.tok_buffer.specs.declared.entry.Entry.TheVariants.{End}
use Rattle.tok_buffer.proofs.Enclosing.{enclosing_entry}
use Rattle.tok_buffer.proofs.Befores.{end_current, leaf_current}
use Rattle.tok_buffer.proofs.cursor.spans.span_at.Goals as goal

pub overflow_sub-position : goal.overflow_sub-position
overflow_sub-position c =
    (enclosing_entry c.args.buffer.now.forest c.args.position c.in-End.back c.requires
    (sym c.entry.ensures ∙ c.held.ensures ∙ ap entry_of c.in-End.is)).0

pub returns-in-Leaf : goal.returns-in-Leaf
returns-in-Leaf c = c.span.ensures
    ∙ leaf_current (frames_at c.args.buffer.now.forest c.args.position).0
    (leaf_in c.in-Leaf.leaf) (sym c.entry.ensures ∙ c.held.ensures ∙ ap entry_of c.in-Leaf.is)

pub returns-in-Group : goal.returns-in-Group
returns-in-Group c = grind (arith, common_steps)

pub returns-in-End : goal.returns-in-End
returns-in-End c =
    let e : entry_here (frames_at c.args.buffer.now.forest c.args.position).0 ≡ End c.in-End.back =
    sym c.entry.ensures ∙ c.held.ensures ∙ ap entry_of c.in-End.is in
    let r = enclosing_entry c.args.buffer.now.forest c.args.position c.in-End.back c.requires e in
    rw (c.closing.ensures, c.entry-in-End.ensures, r.1) (end_current _ c.in-End.back e)
