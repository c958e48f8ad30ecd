use Rattle.tok_lexical.specs.Strings.{IsEscapedChar}
use Rattle.tok_lexical.proofs.EscapedChars.{free_escaped}
use Rattle.tok_lexical.proofs.Units.{tries_quoted}
use Rattle.tok_lexical.proofs.char_literals.past_escaped_char.Goals as goal

pub returns-clause-tries : goal.returns-clause-tries
returns-clause-tries c = tries_quoted IsEscapedChar _ _ _ _ _ free_escaped
    c.in_ok-start.ensures.chars c.in_ok-end.ensures.finds.1 c.in_ok-end.ensures.finds.2
    c.past_end.ensures.tries
