use Rattle.tok_lexical.proofs.Sources.{attribute}
use Rattle.tok_lexical.proofs.source.opens_attribute.Goals as goal

pub returns : goal.returns
returns c = attribute _ _ c.begins_with.result c.begins_with.ensures
    c.past_blank_pieces.ensures.blanks c.past_blank_pieces.ensures.last
