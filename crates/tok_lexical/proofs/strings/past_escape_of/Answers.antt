use Rattle.tok_lexical.proofs.strings.past_escape_of.Goals as goal

pub returns-in-Text-clause-finds : goal.returns-in-Text-clause-finds
returns-in-Text-clause-finds c = rw c.in-Text.is c.past_escape.ensures.finds

pub returns-in-Bytes-clause-finds : goal.returns-in-Bytes-clause-finds
returns-in-Bytes-clause-finds c = rw c.in-Bytes.is c.past_escape-in-Bytes.ensures.finds
