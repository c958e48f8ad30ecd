-- Which rule takes a decimal, by what follows its digits.
use Rattle.std.proofs.Common.{◌≡◌, ℕ, List, [], ◌∷◌, true}
use Rattle.std.specs.Prelude.{Some, None}
use Rattle.std.specs.Borrow.{Bor}
use Rattle.std.specs.Str.{chars}
use Rattle.tok_lexical.specs.Fits.{IsFirstFit, here, later}
use Rattle.tok_lexical.specs.Floats.{IsFloatTail}
use Rattle.tok_lexical.specs.Numbers.{is_digit_or_underscore, starts_digit, IsNumberSuffix}
use Rattle.tok_lexical.specs.Pieces.{HasPrefix, IsLongestPrefix, ReadsLongest, Skips}
use Rattle.tok_lexical.specs.Rules.{decimal_rules, Spells}
use Rattle.tok_lexical.specs.declared.rule.Rule.TheVariants.{Decimal, Float, PointedDecimal}
use Rattle.tok_lexical.proofs.FloatTails.{tail_begins, point_begins, tries_point}
use Rattle.tok_lexical.proofs.Digits.{tries_digits, takes_run, digits_start, suffix_stops}

module _ (text rest digits : List ℕ) (s : Skips (is_digit_or_underscore 10) text digits rest)
    (g : starts_digit text ≡ true) where
  pub decimal_float : (end : Bor (List ℕ)) → ReadsLongest IsFloatTail rest (Some end) →
      (piece : List ℕ) × IsFirstFit text decimal_rules Float piece (chars end.now)
  decimal_float end t =
      let w = tries_digits IsFloatTail tail_begins text rest digits (Some end) s g t in
      (w.0, here w.1)

  no_float : ReadsLongest IsFloatTail rest None → HasPrefix (Spells Float) text → ⊥
  no_float misses = tries_digits IsFloatTail tail_begins text rest digits None s g misses

  pub decimal_point : (after : Bor (List ℕ)) → ReadsLongest IsFloatTail rest None →
      rest ≡ 46 ∷ chars after.now → (piece : List ℕ) × IsFirstFit text decimal_rules
      PointedDecimal piece (chars after.now)
  decimal_point after misses e =
      let w = tries_digits (λ tail. tail ≡ 46 ∷ []) point_begins text rest digits (Some after) s g
      (tries_point rest (Some after) e) in
      (w.0, later (no_float misses) (here w.1))

  pub takes_plain : (suffix last : List ℕ) → IsLongestPrefix (IsNumberSuffix 10) rest suffix last →
      (piece : List ℕ) × IsLongestPrefix (Spells Decimal) text piece last
  takes_plain suffix last t = takes_run 10 starts_digit (IsNumberSuffix 10) (suffix_stops 10)
      text rest last digits suffix s (digits_start text rest digits s g) t

  pub decimal_integer : (suffix last : List ℕ) → ReadsLongest IsFloatTail rest None →
      ((more : List ℕ) → rest ≡ 46 ∷ more → ⊥) → IsLongestPrefix (IsNumberSuffix 10) rest suffix
      last → (piece : List ℕ) × IsFirstFit text decimal_rules Decimal piece last
  decimal_integer suffix last misses n t =
      let w = takes_plain suffix last t in
      let no_point = tries_digits (λ tail. tail ≡ 46 ∷ []) point_begins text rest digits None s g
      (tries_point rest None n) in
      (w.0, later (no_float misses) (later no_point (here w.1)))

  pub decimal_only : (suffix last : List ℕ) → IsLongestPrefix (IsNumberSuffix 10) rest suffix
      last → (piece : List ℕ) × IsFirstFit text (Decimal ∷ []) Decimal piece last
  decimal_only suffix last t = let w = takes_plain suffix last t in (w.0, here w.1)
