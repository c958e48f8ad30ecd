use Rattle.std.proofs.Common.{sym, ap, ◌∙◌}
use Rattle.tok_lexical.specs.Docs.{after_mark}
use Rattle.tok_lexical.proofs.Docs.{without_end, mark_chars}
use Rattle.tok_lexical.proofs.comments.block_doc_text.Goals as goal

pub front_of-requires : goal.front_of-requires
front_of-requires c =
    let r = c.requires in (
      r.1,
      rw (c.past_first-text.ensures, c.past_first-2.ensures, c.past_first.ensures, r.2, mark_chars),
    )

pub returns : goal.returns
returns c =
    let r = c.requires in
    c.front_of.ensures.is r.1
    (rw (c.past_first-text.ensures, c.past_first-2.ensures, c.past_first.ensures, r.2, mark_chars))
    ∙ sym (without_end _ r.1 (ap after_mark r.2))
