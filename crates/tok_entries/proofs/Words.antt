-- A text is one piece, by one rule.
use Rattle.std.proofs.Common.{◌≡◌, ◌==◌, ℕ, List, [], ◌∷◌, Bool, true, false, length, arith, subst, sym, ap, ◌∙◌}
use Rattle.std.proofs.lemmas.Bool.{false≢true, ne_eqb}
use Rattle.std.proofs.lemmas.Str.{chars-nil}
use Rattle.std.specs.Prelude.{MatchBool, MatchOption, Option, None, Some, encode_utf8}
use Rattle.std.proofs.lemmas.Str.{encode_ascii}
use Rattle.tok_lexical.specs.Characters.{is_punct_or_apostrophe}
use Rattle.tok_lexical.specs.Errors.{error_kind}
use Rattle.tok_leaves.specs.declared.punct.Punct.{Punct}
use Rattle.tok_leaves.specs.declared.punct.Spacing.{Spacing}
use Rattle.tok_leaves.specs.declared.span.Span.{Span}
use Rattle.tok_leaves.specs.Leaves.{punct, punct_of}
use Rattle.std.specs.Str.{chars}
use Rattle.tok_lexical.specs.Fits.{IsFirstFit, NoneBefore}
use Rattle.tok_lexical.specs.Rules.{rules_of}
use Rattle.tok_lexical.specs.declared.edition.Edition.TheVariants.{Edition2024}
use Rattle.tok_lexical.specs.declared.rule.Rule.{Rule}
use Rattle.tok_lexical.specs.declared.rule.Mode.TheVariants.{Source}
use Rattle.tok_lexical.proofs.Fits.{decides_nothing, decides_unique}
use Rattle.tok_core.proofs.Lexical.Cuts.{all_tried, ends_in_other}
use Rattle.tok_entries.specs.Texts.{IsPiece}
use Rattle.tok_entries.proofs.Once.{head, punct_is_small}

-- no rule fits, so none takes all
pub no_rule : (text : List ℕ) (r : Rule)
    → NoneBefore (rules_of (Source Edition2024)) (chars text)
    (length (rules_of (Source Edition2024)))
    → IsPiece r text → ⊥
no_rule text r none ((piece, fit), e) =
    decides_nothing (subst (λ (x : List ℕ). IsFirstFit x (rules_of (Source Edition2024)) r piece [])
    (all_tried (rules_of (Source Edition2024)) (chars text) (ends_in_other (Source Edition2024))
    none)
    fit)

-- a piece with nothing after it
pub whole_fit : (text rest : List ℕ) (b : Bool) (r : Rule) (piece : List ℕ) → b ≡ (length rest == 0)
    → b ≡ true → IsFirstFit text (rules_of (Source Edition2024)) r piece (chars rest)
    → IsFirstFit text (rules_of (Source Edition2024)) r piece []
whole_fit text [] b r piece e t fit =
    subst (λ (x : List ℕ). IsFirstFit text (rules_of (Source Edition2024)) r piece x) chars-nil fit
whole_fit text (x ∷ rest) b r piece e t fit =
    absurd (false≢true (sym (ne_eqb (length (x ∷ rest)) 0 (λ z. absurd (omega arith)))
    ∙ sym e ∙ t))

-- a rule that takes all is the first that fits
pub same_rule : (text : List ℕ) (r s : Rule) (piece rest : List ℕ)
    → IsFirstFit (chars text) (rules_of (Source Edition2024)) r piece rest → IsPiece s text → s ≡ r
same_rule text r s piece rest fit ((other, fits), e) = (decides_unique fits fit).0

pub nothing_behind : (text rest : List ℕ) (r s : Rule) (piece : List ℕ)
    → IsFirstFit (chars text) (rules_of (Source Edition2024)) r piece rest → IsPiece s text
    → rest ≡ []
nothing_behind text rest r s piece fit ((other, fits), e) = sym (decides_unique fits fit).2

-- a rule that takes all, and rejects it
pub refused_rule : (text : List ℕ) (r s : Rule) (piece rest : List ℕ) (b : Bool)
    → IsFirstFit (chars text) (rules_of (Source Edition2024)) r piece rest → b ≡ false
    → MatchBool b (error_kind r (Source Edition2024) 0 (chars text) [] ≡ None)
    (error_kind r (Source Edition2024) 0 (chars text) [] ≡ None → ⊥) → IsPiece s text → ⊥
refused_rule text r s piece rest false fit e never (p, k) =
    never (subst (λ (x : Rule). error_kind x (Source Edition2024) 0 (chars text) [] ≡ None)
    (same_rule text r s piece rest fit (p, k)) k)
refused_rule text r s piece rest true fit e never (p, k) = absurd (false≢true (sym e))

-- a punct of its text
pub punct_told : (text : List ℕ) (b : ℕ) (spacing : Spacing) (span : Span) (r : Option Punct)
    → text ≡ b ∷ []
    → MatchOption r (is_punct_or_apostrophe b ≡ false)
    (λ p. (is_punct_or_apostrophe b ≡ true) × (punct_of p ≡ punct b spacing span))
    → MatchOption r ((c : ℕ) → is_punct_or_apostrophe c ≡ true → text ≡ encode_utf8 c → ⊥)
    (λ p. (c : ℕ) × (is_punct_or_apostrophe c ≡ true) × (text ≡ encode_utf8 c)
    × (punct_of p ≡ punct c spacing span))
punct_told text b spacing span None e never = λ c h k.
    let same : b ∷ [] ≡ c ∷ [] = sym e ∙ k ∙ encode_ascii c (punct_is_small c h) in
    false≢true (sym never ∙ ap (λ x. is_punct_or_apostrophe x) (head b c [] [] same) ∙ h)
punct_told text b spacing span (Some p) e (h, k) =
    (b, h, e ∙ sym (encode_ascii b (punct_is_small b h)), k)
