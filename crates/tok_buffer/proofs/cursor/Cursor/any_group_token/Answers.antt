use Rattle.std.proofs.Common.{◌∙◌, sym, ap, Some, [], ◌∷◌}
use Rattle.tok_core.specs.Forest.{group}
use Rattle.tok_leaves.specs.Spans.{whole_span}
use Rattle.tok_buffer.specs.Cursors.{place_of}
use Rattle.tok_buffer.specs.Entry.{Entered}
use Rattle.tok_buffer.proofs.Peeks.{group_read}
use Rattle.tok_buffer.proofs.cursor.Cursor.any_group_token.Goals as goal

pub returns-in_ok-stream-in-Some : goal.returns-in_ok-stream-in-Some
returns-in_ok-stream-in-Some c =
    let p = place_of c.args.self in
    let e : Entered = record {
      delimiter = c.in-Some.delimiter;
      span = whole_span c.in-Some.span;
      content = place_of c.in-Some.content;
      after = place_of c.in-Some.after;
    } in
    group_read p e c.in-Some.ensures
    ∙ sym (ap (λ t. Some (t ∷ [], e.after))
    (c.new.ensures ∙ ap (λ s. group e.delimiter c.in_ok-stream-in-Some.stream s)
    c.join.ensures ∙ ap (λ f. group e.delimiter f e.span)
    (c.in_ok-stream-in-Some.ensures {u = tt})))
