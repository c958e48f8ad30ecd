use Rattle.tok_lexical.proofs.Identifiers.{name_raw, name_plain}
use Rattle.tok_lexical.proofs.words.past_name.Goals as goal

pub returns-in-Some-clause-tries : goal.returns-in-Some-clause-tries
returns-in-Some-clause-tries c = (_, name_raw _ _ _ c.in-Some.ensures.tries.1)

pub returns-in-None-clause-tries : goal.returns-in-None-clause-tries
returns-in-None-clause-tries c = name_plain _ _ c.in-None.ensures.tries
    c.past_identifier.ensures.tries
