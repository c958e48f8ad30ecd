-- A text of ASCII characters is its own characters.
use Rattle.std.proofs.Common.{arith, ◌≡◌, ℕ, zero, suc, List, [], ◌∷◌, ◌++◌}
use Rattle.std.specs.Prelude.{Bool, true, nat_lt}
use Rattle.std.specs.List.{list_all}
use Rattle.std.specs.Str.{IsAscii, IsUtf8, chars}
use Rattle.std.proofs.lemmas.Bool.{ltb-true}
use Rattle.std.proofs.lemmas.Str.{IsUtf8-from_ascii, chars-IsAscii, chars-append}
use Rattle.std.proofs.lemmas.Str.Ascii.{IsAscii-nil}
use Rattle.tok_lexical.proofs.Digits.{head_passes, tail_passes}

-- a text of ASCII characters
abbrev pub is_low : List ℕ → Bool
is_low = list_all (λ c. nat_lt c 128)

ascii : (t : List ℕ) → is_low t ≡ true → IsAscii t
ascii [] h i = IsAscii-nil i
ascii (c ∷ t) h zero = ltb-true c 128 (head_passes (λ c. nat_lt c 128) c t h)
ascii (c ∷ t) h (suc i) = ascii t (tail_passes (λ c. nat_lt c 128) c t h) i

pub low_utf8 : (t : List ℕ) → is_low t ≡ true → IsUtf8 t
low_utf8 t h = IsUtf8-from_ascii t (ascii t h)

pub low_chars : (t : List ℕ) → is_low t ≡ true → chars t ≡ t
low_chars t h = chars-IsAscii t (ascii t h)

pub chars_after : (t rest : List ℕ) → is_low t ≡ true → chars (t ++ rest) ≡ t ++ chars rest
chars_after t rest h = grind (arith, chars-append, low_utf8, low_chars)
