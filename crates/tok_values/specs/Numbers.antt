-- What digits are worth.
use Rattle.std.specs.Prelude.{ℕ, ◌+◌, ◌*◌, ◌&&◌, Bool, List, fold, if◌then◌else◌}
use Rattle.std.specs.Char.{is_digit, digit_value}
use Rattle.std.specs.List.{list_all}
use Rattle.tok_lexical.specs.Numbers.{has_digit, is_digit_or_underscore}

-- digits of a base and underscores, a digit among them
abbrev pub is_digits : (radix : ℕ) → List ℕ → Bool
is_digits radix text = has_digit radix text && list_all (is_digit_or_underscore radix) text

-- the number that digits of a base write; what is no digit of it counts for nothing
abbrev pub number : (radix : ℕ) → List ℕ → ℕ
number radix digits =
    fold (λ n c. if is_digit c radix then n * radix + digit_value c else n) 0 digits
