use Rattle.tok_lexical.specs.Strings.{IsByte, IsQuoted}
use Rattle.tok_lexical.proofs.Longest.{tries_after}
use Rattle.tok_lexical.proofs.char_literals.past_byte_char.Goals as goal

pub returns-clause-tries : goal.returns-clause-tries
returns-clause-tries c = tries_after 98 (IsQuoted IsByte) _ _ _ c.in_ok-start.ensures.chars
    c.past_quoted_byte.ensures.tries
