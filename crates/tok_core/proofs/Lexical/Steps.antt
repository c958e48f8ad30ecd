-- Why a piece is refused, and so the text.
use Rattle.std.proofs.Common.{◌≡◌, ◌∙◌, ℕ, List, sym, Ok, Err, Result}
use Rattle.std.specs.Prelude.{Option, Some, None, true}
use Rattle.std.specs.Result.{IfErr}
use Rattle.tok_core.specs.Private.Built.{Halts, by_meaning, unfit, deep, State, IsTooDeep, IsUnfit}
use Rattle.tok_core.specs.Private.Halted.{OnHalted}
use Rattle.tok_lexical.specs.Errors.{error_kind}
use Rattle.tok_core.specs.Lexical.Meaning.{opens_group}
use Rattle.tok_lexical.specs.Fits.{IsFirstFit}
use Rattle.tok_core.specs.Lexical.Reading.{RejectsAt, by_rule, unopened, too_deep}
use Rattle.tok_lexical.specs.declared.delimiter.Delimiter.{Delimiter}
use Rattle.tok_core.specs.declared.lexer.error.Halt.{Halt}
use Rattle.tok_core.specs.declared.lexer.error.Halt.TheVariants.{Refused, Memory}
use Rattle.tok_lexical.specs.declared.lex_error_kind.LexErrorKind.{LexErrorKind}
use Rattle.tok_lexical.specs.Rules.{rules_of}
use Rattle.tok_lexical.specs.declared.rule.Mode.{Mode}
use Rattle.tok_lexical.specs.declared.rule.Rule.{Rule}
use Rattle.tok_lexical.specs.declared.rule.Rule.TheVariants.{Closing}

module _ (nest : State) (rule : Rule) (mode : Mode) (at : ℕ) (piece after : List ℕ) where
  pub halts_meaning : (why : LexErrorKind) (found : Option LexErrorKind) →
      found ≡ error_kind rule mode at piece after → found ≡ Some why →
      Halts nest.groups rule mode at piece after why
  halts_meaning why found f s = by_meaning (sym f ∙ s)

  pub halts_deep : {T : Type 0} (r : Result T Halt) → error_kind rule mode at piece after ≡ None →
      opens_group rule piece ≡ true → IfErr r (λ halt. OnHalted halt (IsTooDeep nest)) →
      IfErr r (λ halt. OnHalted halt (Halts nest.groups rule mode at piece after))
  halts_deep (Ok x) m is h = tt
  halts_deep (Err Memory) m is h = tt
  halts_deep (Err (Refused why)) m is (e, l) = rw e (deep m is l)

  pub halts_unfit : {T : Type 0} (delimiter : Delimiter) (r : Result T Halt) →
      rule ≡ Closing delimiter → IfErr r (λ halt. OnHalted halt (IsUnfit nest delimiter)) →
      IfErr r (λ halt. OnHalted halt (Halts nest.groups rule mode at piece after))
  halts_unfit delimiter (Ok x) is h = tt
  halts_unfit delimiter (Err Memory) is h = tt
  halts_unfit delimiter (Err (Refused why)) is (e, misfit) = rw e (unfit delimiter is misfit)

-- a piece that halts refuses the text
pub refuses : (mode : Mode) (levels : List (Delimiter × ℕ)) (rule : Rule) (at : ℕ)
    (why : LexErrorKind) (rest piece after : List ℕ) →
    IsFirstFit rest (rules_of mode) rule piece after →
    Halts levels rule mode at piece after why → RejectsAt mode levels at rest why at
refuses mode levels rule at why rest piece after d (by_meaning m) = by_rule d m
refuses mode levels rule at why rest piece after d (unfit delimiter r misfit) =
    unopened delimiter piece after (rw r at d) misfit
refuses mode levels rule at why rest piece after d (deep m is l) = too_deep piece after d m is l
