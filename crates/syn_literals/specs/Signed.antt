-- The values of numbers after a minus sign or none (Rust Reference: Negation operators).
use Rattle.std.specs.Prelude.{◌≡◌, ℕ, ℤ, pos, neg_ℤ, ◌<◌, ◌≤◌, ◌^◌, Bool, if◌then◌else◌, List}
use Rattle.std.specs.Prelude.{Option, None, Some, MatchOption, Result, Ok, Err}
use Rattle.std.specs.Float.{Float}
use Rattle.std.specs.Float.Ieee.{neg}
use Rattle.tok_values.specs.declared.integers.IntegerFault.{IntegerFault}
use Rattle.tok_values.specs.declared.integers.IntegerFault.TheVariants.{NotInteger, TooLarge}

-- a number, negated after a minus sign
abbrev pub signed_integer : (negative : Bool) → ℕ → ℤ
signed_integer negative n = if negative then neg_ℤ (pos n) else pos n

-- what a function that reads an integer after a sign returns
abbrev pub HasSignedValue : (negative : Bool) → Option (ℕ × List ℕ) → Result ℤ IntegerFault → Type 0
HasSignedValue negative wanted (Ok n) =
    (i : ℕ) × (suffix : List ℕ) × (wanted ≡ Some (i, suffix)) × (i < 2 ^ 64)
    × (n ≡ signed_integer negative i)
HasSignedValue negative wanted (Err NotInteger) = wanted ≡ None
HasSignedValue negative wanted (Err TooLarge) = MatchOption wanted ⊥ (λ i. 2 ^ 64 ≤ i.0)

-- a double, negated after a minus sign (IEEE 754: negate)
abbrev pub signed_float : (negative : Bool) → Float → Float
signed_float negative x = if negative then neg x else x
