use Rattle.tok_lexical.specs.Pieces.{IsOne}
use Rattle.tok_lexical.specs.Strings.{is_char}
use Rattle.tok_lexical.proofs.EscapedChars.{free_one}
use Rattle.tok_lexical.proofs.Units.{tries_quoted}
use Rattle.tok_lexical.proofs.char_literals.past_plain_char.Goals as goal

pub returns-clause-tries : goal.returns-clause-tries
returns-clause-tries c = tries_quoted (IsOne is_char) _ _ _ _ _ (free_one is_char)
    c.in_ok-start.ensures.chars c.in_ok-end.ensures.finds.1 c.in_ok-end.ensures.finds.2
    c.past_end.ensures.tries
