-- What is between the quotes of a raw string (Rust Reference: Tokens, Raw string literals, Raw byte
-- string literals, Raw C string literals).
use Rattle.std.specs.Prelude.{◌≡◌, ◌≤◌, ℕ, List, ◌∷◌, ◌++◌, ◌==◌, length}
use Rattle.tok_lexical.specs.Ascii.{number_sign, quote}
use Rattle.tok_lexical.specs.Pieces.{IsAll}
use Rattle.tok_lexical.specs.Raw.{EndsAt, most_signs}

-- after its prefix, all of the text is a raw string without a suffix, and these are its contents
abbrev pub InRawQuotes : (text contents : List ℕ) → Type 0
InRawQuotes text contents =
    (hashes : List ℕ) × (text ≡ hashes ++ quote ∷ (contents ++ quote ∷ hashes))
    × IsAll (λ c. c == number_sign) hashes × (length hashes ≤ most_signs)
    × EndsAt (quote ∷ hashes) (contents ++ quote ∷ hashes)
