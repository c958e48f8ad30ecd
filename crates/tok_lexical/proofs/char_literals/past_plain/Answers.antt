use Rattle.std.proofs.Common.{◌∙◌, sym}
use Rattle.tok_lexical.specs.Strings.{is_char}
use Rattle.tok_lexical.proofs.Codes.{one_found}
use Rattle.tok_lexical.proofs.char_literals.past_plain.Goals as goal

pub returns-then-is_char-clause-finds : goal.returns-then-is_char-clause-finds
returns-then-is_char-clause-finds c = one_found is_char _ _ c.in_ok-first.first
    c.in_ok-first.ensures.chars (sym c.is_char.ensures ∙ c.if-is_char.true)
