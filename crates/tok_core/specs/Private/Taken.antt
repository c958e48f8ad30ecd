-- A piece at the front of a text that is taken in or rejected.
use Rattle.std.specs.Prelude.{◌≡◌, ℕ, ◌+◌, List, None}
use Rattle.tok_lexical.specs.Errors.{error_kind}
use Rattle.tok_lexical.specs.Fits.{IsFirstFit}
use Rattle.tok_lexical.specs.Rules.{rules_of}
use Rattle.tok_lexical.specs.Widths.{width}
use Rattle.tok_lexical.specs.declared.delimiter.Delimiter.{Delimiter}
use Rattle.tok_lexical.specs.declared.lex_error_kind.LexErrorKind.{LexErrorKind}
use Rattle.tok_lexical.specs.declared.rule.Mode.{Mode}
use Rattle.tok_lexical.specs.declared.rule.Rule.{Rule}
use Rattle.tok_core.specs.Lexical.Meaning.{items}
use Rattle.tok_core.specs.Private.Built.{Grows, Halts, State}

-- the piece at the front of the text, at this byte, ends at that one and adds what it means
pub record Taken (mode : Mode) (at : ℕ) (old new : State) (text : List ℕ) (end : ℕ)
    (after : List ℕ) : Type 0 where
  pub rule : Rule
  pub piece : List ℕ
  pub fits : IsFirstFit text (rules_of mode) rule piece after
  pub ends : end ≡ at + width rule piece
  pub meant : error_kind rule mode at piece after ≡ None
  pub grown : Grows at old new (items old.source rule mode at piece after)

-- why that piece is rejected
pub record HaltsAt (levels : List (Delimiter × ℕ)) (mode : Mode) (at : ℕ) (text : List ℕ)
    (why : LexErrorKind) : Type 0 where
  pub rule : Rule
  pub piece : List ℕ
  pub after : List ℕ
  pub fits : IsFirstFit text (rules_of mode) rule piece after
  pub halts : Halts levels rule mode at piece after why
