use Rattle.std.proofs.Common.{◌∙◌, sym}
use Rattle.tok_lexical.proofs.Fronts.{first_parts}
use Rattle.tok_lexical.proofs.text.up_to.Goals as goal

pub returns : goal.returns
returns c = let s = c.past_others.ensures.skips in c.front_of.ensures.is _ s.1.cut
    ∙ sym (first_parts _ _ _ _ s.1).0
