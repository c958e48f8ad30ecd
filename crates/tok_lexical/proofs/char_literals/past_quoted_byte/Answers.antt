use Rattle.tok_lexical.specs.Strings.{IsByte}
use Rattle.tok_lexical.proofs.EscapedChars.{free_byte}
use Rattle.tok_lexical.proofs.Units.{tries_quoted}
use Rattle.tok_lexical.proofs.char_literals.past_quoted_byte.Goals as goal

pub returns-clause-tries : goal.returns-clause-tries
returns-clause-tries c = tries_quoted IsByte _ _ _ _ _ free_byte c.in_ok-start.ensures.chars
    c.in_ok-end.ensures.finds.1 c.in_ok-end.ensures.finds.2 c.past_end.ensures.tries
