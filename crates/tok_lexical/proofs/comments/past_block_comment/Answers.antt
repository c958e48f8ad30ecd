use Rattle.tok_lexical.proofs.NestedComments.{tries_marked}
use Rattle.tok_lexical.proofs.comments.past_block_comment.Goals as goal

pub returns-clause-tries : goal.returns-clause-tries
returns-clause-tries c =
    tries_marked _ _ _ (cc (c.in_ok-past_char.ensures.chars, c.in_ok-body.ensures.chars))
    c.past_block.ensures.tries
