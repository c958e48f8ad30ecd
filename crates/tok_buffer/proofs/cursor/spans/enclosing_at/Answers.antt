use Rattle.std.proofs.Common.{◌∙◌, sym, ap}
use Rattle.tok_buffer.specs.Spans.{closing_of}
use Rattle.tok_buffer.specs.Private.Layout.{entry_enclosing}
use Rattle.tok_buffer.proofs.Enclosing.{enclosing_entry}
use Rattle.tok_buffer.proofs.cursor.spans.enclosing_at.Goals as goal

pub overflow_sub-end : goal.overflow_sub-end
overflow_sub-end c =
    (enclosing_entry c.args.buffer.now.forest c.args.end c.in-End.back c.requires.in_buffer
    (sym c.entry.ensures ∙ c.in-End.is)).0

pub returns-in-End : goal.returns-in-End
returns-in-End c =
    let r = enclosing_entry c.args.buffer.now.forest c.args.end c.in-End.back c.requires.in_buffer
    (sym c.entry.ensures ∙ c.in-End.is) in
    c.closing.ensures ∙ ap (λ e. closing_of (entry_enclosing e)) c.entry-in-End.ensures
    ∙ ap closing_of r.1
