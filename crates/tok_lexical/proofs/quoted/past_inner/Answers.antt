use Rattle.tok_lexical.proofs.QuotedFaults.{finds_char}
use Rattle.tok_lexical.proofs.quoted.past_inner.Goals as goal

pub returns-in-None-clause-finds : goal.returns-in-None-clause-finds
returns-in-None-clause-finds c =
    finds_char _ _ c.in-None.ensures.finds c.past_plain.ensures.finds
