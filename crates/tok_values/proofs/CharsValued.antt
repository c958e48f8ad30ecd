-- A character or a byte literal by the grammar has a value.
use Rattle.std.proofs.Common.{◌≡◌, ℕ, List, [], ◌∷◌, ◌++◌, Bool, true, false, Some}
use Rattle.std.proofs.Common.{arith, inl, inr, refl}
use Rattle.std.specs.Prelude.{◌==◌, ◌&&◌, nat_le, nat_lt, not}
use Rattle.std.proofs.lemmas.Bool.{and_from, and_parts, false≢true, ne_eqb}
use Rattle.std.proofs.lemmas.Bool.Decides.{nat_tests}
use Rattle.tok_lexical.specs.Pieces.{After}
use Rattle.tok_lexical.specs.Strings.{IsByte, IsChar, IsEscape, IsQuoted, code, hex}
use Rattle.tok_lexical.specs.Strings.{is_char, line_end, simple}
use Rattle.tok_lexical.specs.Words.{IsSuffix}
use Rattle.tok_values.specs.Laws.{BytesHaveValues, CharactersHaveValues}
use Rattle.tok_values.specs.Strings.{InApostrophes, one_char}
use Rattle.tok_values.proofs.Escaped.{Names, code_names, hex_names, simple_names}

-- what is between apostrophes names a character
abbrev IsOneOf : (wide : Bool) → (inner rest : List ℕ) → Type 0
IsOneOf wide inner rest = (c : ℕ) × (one_char wide (inner ++ rest) ≡ Some (c, rest))

alone : (wide : Bool) (c : ℕ) (inner rest : List ℕ) → inner ≡ c ∷ [] →
    (is_char c && not (wide && nat_le 128 c)) ≡ true → IsOneOf wide inner rest
alone wide c inner rest e h =
    let char = (and_parts (is_char c) _ h).0 in
    let slash : (c == 92) ≡ false = ne_eqb c 92 (λ k. absurd (cc)) in (c, cc)

any_escape : (wide : Bool) (text rest : List ℕ) → IsEscape false wide text → Names wide text rest
any_escape wide text rest (simple c h) = simple_names wide c rest h
any_escape wide text rest (hex {text = digits} h) = hex_names wide digits rest h
any_escape wide text rest (code {text = braced} e h) = rw e (code_names braced rest h)
any_escape wide text rest (line_end e h) = absurd (false≢true e)

escaped : (wide : Bool) (inner rest : List ℕ) → After 92 (IsEscape false wide) inner →
    IsOneOf wide inner rest
escaped wide inner rest (text, e, h) =
    let n = any_escape wide text rest h in
    (n.char, rw e n.is)

-- within apostrophes
quoted : (wide : Bool) (Inner : List ℕ → Type 0) →
    ((inner rest : List ℕ) → Inner inner → IsOneOf wide inner rest) → (text : List ℕ) →
    IsQuoted Inner text → (c : ℕ) × InApostrophes IsSuffix wide text c
quoted wide Inner reads text (inner, suffix, e, h, s) =
    let (c, is) = reads inner (39 ∷ suffix) h in
    (c, (inner ++ 39 ∷ suffix, e, (39 ∷ suffix, is, (suffix, refl, s))))

pub characters_have_values : CharactersHaveValues
characters_have_values text h = quoted false IsChar reads text h
  where
    reads : (inner rest : List ℕ) → IsChar inner → IsOneOf false inner rest
    reads inner rest (inl (c, h, e)) = alone false c inner rest e (and_from (is_char c) true h refl)
    reads inner rest (inr h) = escaped false inner rest h

narrow : (c : ℕ) → nat_lt c 128 ≡ true → not (nat_le 128 c) ≡ true
narrow c h = grind (arith, nat_tests)

pub bytes_have_values : BytesHaveValues
bytes_have_values text (string, e, h) =
    let (byte, is) = quoted true IsByte reads string h in (byte, (string, e, is))
  where
    reads : (inner rest : List ℕ) → IsByte inner → IsOneOf true inner rest
    reads inner rest (inl (c, h, e)) =
        let both = and_parts (is_char c) (nat_lt c 128) h in
        alone true c inner rest e (and_from (is_char c) _ both.0 (narrow c both.1))
    reads inner rest (inr h) = escaped true inner rest h
