use Rattle.tok_lexical.proofs.Identifiers.{whole_identifier}
use Rattle.tok_lexical.proofs.words.is_identifier.Goals as goal

pub returns-in-Some : goal.returns-in-Some
returns-in-Some c = whole_identifier _ c.in-Some.rest.now _ c.is_empty.ensures
    c.in-Some.ensures.utf8 c.in-Some.ensures.tries
