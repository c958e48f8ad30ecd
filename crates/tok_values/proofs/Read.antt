-- The text of a made literal is read as one literal.
use Rattle.std.proofs.Common.{◌≡◌, ℕ, List, [], ◌∷◌, true, refl}
use Rattle.std.specs.Str.{IsUtf8, chars}
use Rattle.std.proofs.lemmas.Bool.{eqb-false}
use Rattle.tok_lexical.specs.Strings.{IsUnit, escape, is_simple_escape, plain, simple}
use Rattle.tok_lexical.specs.declared.contents.Contents.TheVariants.{Text}
use Rattle.tok_lexical.specs.declared.rule.Mode.{Mode}
use Rattle.tok_lexical.specs.declared.rule.Rule.TheVariants.{QuotedString}
use Rattle.tok_leaves.specs.Quoting.{escaped, in_quotes}
use Rattle.tok_values.specs.Laws.{IsOnePiece}
use Rattle.tok_values.specs.Strings.{IsStringValue}
use Rattle.tok_values.proofs.Quoted.{encodes_escape, one_scalars, unit_is, written, written_cases}
use Rattle.tok_values.proofs.Written.{IsWriting, NoReturn, is_read, keeps_text}

simple_unit : (c : ℕ) → is_simple_escape c ≡ true → IsUnit Text (92 ∷ c ∷ [])
simple_unit c h = escape (simple c h)

-- what is written for a character is a unit
pub written_unit : (c : ℕ) → IsUnit Text (written c)
written_unit =
    written_cases (λ _. IsUnit Text) (simple_unit 34 refl) (simple_unit 92 refl)
    (simple_unit 110 refl) (simple_unit 114 refl) (simple_unit 116 refl) (simple_unit 48 refl)
    (λ c q s f r t n. plain c (eqb-false c 34 q) (eqb-false c 92 s))

pub written_kept : (c : ℕ) → NoReturn (written c)
written_kept = written_cases (λ _. NoReturn) refl refl refl refl refl refl (λ c q s f r t n. simp r)

-- as a string literal is written
strings : IsWriting written escaped
strings = record {
  encoded = encodes_escape;
  scalar = one_scalars;
  means = λ c rest h. unit_is c rest;
  is_unit = λ c h. written_unit c;
  kept = λ c h. written_kept c;
}

pub strings_keep_text : (text : List ℕ) → IsUtf8 text
    → IsStringValue (chars (in_quotes (chars text))) text
strings_keep_text = keeps_text written escaped strings

pub strings_are_read : (mode : Mode) (text : List ℕ) → IsUtf8 text →
    IsOnePiece mode (QuotedString Text) (chars (in_quotes (chars text)))
strings_are_read = is_read written escaped strings
