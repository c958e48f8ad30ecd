use Rattle.tok_lexical.specs.Comments.{is_not_line_feed}
use Rattle.tok_lexical.proofs.Longest.{takes_after_pair}
use Rattle.tok_lexical.proofs.comments.past_line_comment.Goals as goal

pub returns-clause-tries : goal.returns-clause-tries
returns-clause-tries c = takes_after_pair 47 47 is_not_line_feed _ _ _
    (cc (c.in_ok-past_char.ensures.chars, c.in_ok-body.ensures.chars)) c.past_line.ensures
