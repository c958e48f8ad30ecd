use Rattle.tok_lexical.proofs.NestedComments.{skips_line}
use Rattle.tok_lexical.proofs.comments.past_line.Goals as goal

pub returns : goal.returns
returns c = skips_line _ _ c.past_others.ensures.skips
