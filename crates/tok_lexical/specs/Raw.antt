-- The spellings of raw strings (Rust Reference: Tokens, Raw string literals, Raw byte string
-- literals, Raw C string literals).
use Rattle.std.specs.Prelude.{◌≡◌, ◌≤◌, ℕ, List, ◌∷◌, ◌++◌, ◌==◌, length}
use Rattle.tok_lexical.specs.Ascii.{lower_b, lower_c, lower_r, number_sign, quote}
use Rattle.tok_lexical.specs.Pieces.{After, IsAll}
use Rattle.tok_lexical.specs.Words.{IsSuffix}
use Rattle.tok_lexical.specs.declared.contents.Contents.{Contents}
use Rattle.tok_lexical.specs.declared.contents.Contents.TheVariants.{Text, Bytes, C}

-- the text ends with this closing, which stands at no earlier place in it
pub data EndsAt (closing : List ℕ) : List ℕ → Type 0 where
  closed : EndsAt closing closing
  further : {c : ℕ} {text : List ℕ} → ((more : List ℕ) → c ∷ text ≡ closing ++ more → ⊥) →
      EndsAt closing text → EndsAt closing (c ∷ text)

-- the most # that a raw string may have before its quote
abbrev pub most_signs : ℕ
most_signs = 255

-- what follows the prefix of a raw string: at most 255 #, a quote, and up to the first quote that
-- as many # follow; and a suffix
abbrev pub IsRaw : List ℕ → Type 0
IsRaw piece =
    (hashes : List ℕ) × (body : List ℕ) × (suffix : List ℕ)
    × (piece ≡ hashes ++ quote ∷ (body ++ suffix)) × IsAll (λ c. c == number_sign) hashes
    × (length hashes ≤ most_signs) × EndsAt (quote ∷ hashes) body × IsSuffix suffix

-- a raw string with its prefix, which tells the kind: `r`, `br` or `cr`
abbrev pub IsRawString : Contents → List ℕ → Type 0
IsRawString Text = After lower_r IsRaw
IsRawString Bytes = After lower_b (After lower_r IsRaw)
IsRawString C = After lower_c (After lower_r IsRaw)
