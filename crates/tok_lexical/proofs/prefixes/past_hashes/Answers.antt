use Rattle.tok_lexical.proofs.StringPrefixes.{finds_hashes}
use Rattle.tok_lexical.proofs.prefixes.past_hashes.Goals as goal

pub returns-clause-finds : goal.returns-clause-finds
returns-clause-finds c = finds_hashes _ _ c.past_number_signs.ensures.0 _
    c.past_number_signs.ensures.1 c.past_char.ensures.chars
