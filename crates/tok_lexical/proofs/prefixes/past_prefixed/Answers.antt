use Rattle.tok_lexical.proofs.StringPrefixes.{prefixed_quote, prefixed_raw}
use Rattle.tok_lexical.proofs.prefixes.past_prefixed.Goals as goal

pub returns-in-Some-clause-finds : goal.returns-in-Some-clause-finds
returns-in-Some-clause-finds c = prefixed_quote _ _ c.in-Some.ensures.chars

pub returns-in-None-clause-finds : goal.returns-in-None-clause-finds
returns-in-None-clause-finds c = prefixed_raw _ _ c.in-None.ensures.chars c.past_raw.ensures.finds
