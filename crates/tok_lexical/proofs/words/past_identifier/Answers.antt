use Rattle.std.proofs.Common.{◌∙◌, sym}
use Rattle.tok_lexical.proofs.Identifiers.{takes_identifier}
use Rattle.tok_lexical.proofs.words.past_identifier.Goals as goal

pub returns-then-is_identifier_start-clause-tries :
    goal.returns-then-is_identifier_start-clause-tries
returns-then-is_identifier_start-clause-tries c = takes_identifier _ _ _ c.in_ok-first.first
    c.in_ok-first.ensures.chars (sym c.is_identifier_start.ensures
    ∙ c.if-is_identifier_start.true) c.past_continues.ensures
