-- A text is one literal, by one rule.
use Rattle.std.proofs.Common.{◌≡◌, ◌∙◌, [], false, length, List, ℕ, None, Some}
use Rattle.std.proofs.Common.{sym, true}
use Rattle.std.specs.Option.{is_some}
use Rattle.std.specs.Prelude.{◌==◌, Bool, MatchBool, Option, not}
use Rattle.std.specs.Str.{chars, IsUtf8}
use Rattle.std.proofs.lemmas.Bool.{false≢true}
use Rattle.std.proofs.lemmas.List.{append-nil}
use Rattle.std.proofs.lemmas.Option.{none-some}
use Rattle.std.proofs.lemmas.Str.{chars-nil}
use Rattle.tok_lexical.specs.Errors.{error_kind}
use Rattle.tok_lexical.specs.Fits.{IsFirstFit, NoneBefore}
use Rattle.tok_lexical.specs.Rules.{rules_of}
use Rattle.tok_lexical.specs.declared.edition.Edition.TheVariants.{Edition2024}
use Rattle.tok_lexical.specs.declared.lex_error_kind.LexErrorKind.{LexErrorKind}
use Rattle.tok_lexical.specs.declared.rule.Mode.TheVariants.{Source}
use Rattle.tok_lexical.specs.declared.rule.Rule.{Rule}
use Rattle.tok_lexical.proofs.Fits.{decides_unique, fits_longest}
use Rattle.tok_leaves.specs.Literals.{IsOneLiteral, is_literal_rule}
use Rattle.tok_leaves.proofs.Names.{no_text}
use Rattle.tok_lexical.proofs.Texts.{some_left}
use Rattle.tok_lexical.proofs.Sources.{none_decides}

pub no_rule : (text : List ℕ) → NoneBefore (rules_of (Source Edition2024)) text
    (length (rules_of (Source Edition2024))) → IsOneLiteral text → ⊥
no_rule text n (rule, is, fit, ok) =
    none_decides (rules_of (Source Edition2024)) text rule text [] n fit

-- what a rule takes of a text
module _ (text piece : List ℕ) (rest : List ℕ) (rule : Rule)
    (fit : IsFirstFit text (rules_of (Source Edition2024)) rule piece (chars rest)) where
  pub some_after : IsUtf8 rest → (length rest == 0) ≡ false → IsOneLiteral text → ⊥
  some_after u h (other, is, fits, ok) = some_left rest u h (decides_unique fit fits).2

  pub other_rule : is_literal_rule rule ≡ false → IsOneLiteral text → ⊥
  other_rule h (other, is, fits, ok) =
      absurd (cc (decides_unique fit fits).0)

  pub rejected : (error_kind rule (Source Edition2024) 0 text [] ≡ None → ⊥) → IsOneLiteral text → ⊥
  rejected never (other, is, fits, ok) =
      never (rw (decides_unique fit fits).0 ok)

  pub one_literal : (length rest == 0) ≡ true → is_literal_rule rule ≡ true →
      error_kind rule (Source Edition2024) 0 text [] ≡ None → IsOneLiteral text
  one_literal h is ok =
      let none : chars rest ≡ [] = cc (no_text rest h, chars-nil) in
      let whole : piece ≡ text = cc ((fits_longest fit).cut, append-nil piece) in
      (rule, is, rw (none, whole) at fit, ok)

-- The rule accepts the piece, which is at the end of a text, if no error is found.
pub accepts : (rule : Rule) (text : List ℕ) (found : Option LexErrorKind) (is_read : Bool) →
    found ≡ error_kind rule (Source Edition2024) 0 text (chars []) → is_some found ≡ not is_read →
    MatchBool is_read (error_kind rule (Source Edition2024) 0 text [] ≡ None)
    (error_kind rule (Source Edition2024) 0 text [] ≡ None → ⊥)
accepts rule text None true e t = sym (rw chars-nil at e)
accepts rule text (Some kind) false e t =
    λ none. none-some kind (sym none ∙ sym (rw chars-nil at e))
accepts rule text None false e t = absurd (false≢true t)
accepts rule text (Some kind) true e t = absurd (false≢true (sym t))

-- a test of the one tells the other
pub by_test : (P Q : Type 0) (b : Bool) → (Q → P) → ((Q → ⊥) → P → ⊥) → MatchBool b Q (Q → ⊥) →
    MatchBool b P (P → ⊥)
by_test P Q true f g h = f h
by_test P Q false f g h = g h
