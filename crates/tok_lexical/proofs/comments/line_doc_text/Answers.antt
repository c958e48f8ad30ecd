use Rattle.tok_lexical.proofs.comments.line_doc_text.Goals as goal

pub returns : goal.returns
returns c =
    rw (c.up_to.ensures, c.past_first-text.ensures, c.past_first-2.ensures, c.past_first.ensures)
