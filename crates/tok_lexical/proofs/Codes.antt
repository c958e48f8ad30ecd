-- Escapes by number.
use Rattle.std.proofs.Common.{◌≡◌, ℕ, ◌+◌, ◌*◌, ◌≤◌, ◌<◌, inl, inr, List, [], ◌∷◌, ◌++◌}
use Rattle.std.proofs.Common.{refl, arith, append_assoc, true, false, Bool}
use Rattle.std.specs.Prelude.{cond, fold, count_by, if◌then◌else◌, Option, Some, None, MatchOption}
use Rattle.std.specs.Char.{is_digit, digit_value}
use Rattle.std.specs.Str.{chars}
use Rattle.std.specs.Borrow.{Bor}
use Rattle.std.proofs.Math.Utf8.{scalar_cases}
use Rattle.std.proofs.lemmas.Bool.{lt-ltb, ltb-true, false_from_ne_true}
use Rattle.tok_lexical.specs.Pieces.{HasPrefix, Skips, IsOne}
use Rattle.tok_lexical.specs.Private.Finds.{ReadsPrefix}
use Rattle.tok_lexical.specs.Strings.{IsEscape, IsByte, is_byte, is_hex, is_hex_or_underscore}
use Rattle.tok_lexical.specs.Strings.{hex_value, IsHex, NamesChar, IsCode, IsLineEnd}
use Rattle.tok_lexical.proofs.Longest.{finds_after}
use Rattle.tok_lexical.proofs.EscapedChars.{not_backslash}
use Rattle.tok_lexical.proofs.Digits.{all_stops}

-- hexadecimal escapes
pub hex_found : (top high low : ℕ) (text third rest : List ℕ) → text ≡ high ∷ third →
    third ≡ low ∷ rest → is_digit high top ≡ true → is_digit low 16 ≡ true → (piece : List ℕ)
    × (text ≡ piece ++ rest) × IsHex top piece
hex_found top high low text third rest e f a b =
    (high ∷ low ∷ [], cc, (high, low, refl, a, b))

pub one_found : (p : ℕ → Bool) (text rest : List ℕ) (c : ℕ) → text ≡ c ∷ rest → p c ≡ true →
    (piece : List ℕ) × (text ≡ piece ++ rest) × IsOne p piece
one_found p text rest c e h = (c ∷ [], e, (c, h, refl))

pub line_found : (text rest : List ℕ) → text ≡ 10 ∷ rest → (piece : List ℕ)
    × (text ≡ piece ++ rest) × IsLineEnd piece
line_found text rest e = (10 ∷ [], e, inl refl)

pub long_line_finds : (text : List ℕ) (answer : Option (Bor (List ℕ))) →
    ((more : List ℕ) → text ≡ 10 ∷ more → ⊥) →
    MatchOption answer ((more : List ℕ) → text ≡ 13 ∷ 10 ∷ more → ⊥)
    (λ rest. text ≡ 13 ∷ 10 ∷ chars rest.now) → ReadsPrefix IsLineEnd text answer
long_line_finds text None a b = λ (piece, after, cut, h). elim h [
  | inl e ↦ a after (cc)
  | inr e ↦ b after (cc)
]
long_line_finds text (Some rest) a e = (13 ∷ 10 ∷ [], e, inr refl)

-- the value so far after one more character
abbrev pub value_step : ℕ → ℕ → ℕ
value_step n c = if is_hex c then n * 16 + digit_value c else n

-- the count of digits so far after one more character
abbrev count_step : ℕ → ℕ → ℕ
count_step n c = n + cond (is_hex c) 1 0

value_grows : (n : ℕ) (text : List ℕ) → n ≤ fold value_step n text
value_grows n [] = omega arith
value_grows n (c ∷ text) =
    elim (is_hex c) as (λ b. n ≤ fold value_step (if b then n * 16 + digit_value c else n) text) [
      | true ↦ (let h = value_grows (n * 16 + digit_value c) text in omega arith)
      | false ↦ value_grows n text
    ]

count_grows : (n : ℕ) (text : List ℕ) → n ≤ fold count_step n text
count_grows n [] = omega arith
count_grows n (c ∷ text) = let h = count_grows (count_step n c) text in omega arith

-- where the loop over the digits stands
pub record Counts (all rest : List ℕ) (value count : ℕ) : Type 0 where
  pub value_is : fold value_step value rest ≡ hex_value all
  pub count_is : fold count_step count rest ≡ count_by is_hex all
  pub few : count ≤ 6

pub counts_digit : (all rest after : List ℕ) (value count c d : ℕ) →
    Counts all rest value count → rest ≡ c ∷ after → is_hex c ≡ true → d ≡ digit_value c →
    (count ≡ 6 → ⊥) → Counts all after (value * 16 + d) (count + 1)
counts_digit all rest after value count c d s e h k f = record {
  value_is = rw (k, ← s.value_is, e, h) refl;
  count_is = rw (← s.count_is, e, h) refl;
  few = let g = s.few in omega arith;
}

pub counts_other : (all rest after : List ℕ) (value count c : ℕ) → Counts all rest value count →
    rest ≡ c ∷ after → is_hex c ≡ false → Counts all after value count
counts_other all rest after value count c s e h = record {
  value_is = rw (← s.value_is, e, h) refl;
  count_is = let same : count + 0 ≡ count = omega arith in rw (← s.count_is, e, h, same) refl;
  few = s.few;
}

pub too_many : (all rest after : List ℕ) (value count c : ℕ) → Counts all rest value count →
    rest ≡ c ∷ after → is_hex c ≡ true → count ≡ 6 → NamesChar all → ⊥
too_many all rest after value count c s e h k n =
    let grown : count + 1 ≤ count_by is_hex all =
    rw (← s.count_is, e, h) (count_grows (count + 1) after) in
    let few = n.few in
    omega arith

pub too_large : (all rest : List ℕ) (value count : ℕ) → Counts all rest value count →
    0x10_FFFF < value → NamesChar all → ⊥
too_large all rest value count s l n =
    let grown = rw s.value_is at (value_grows value rest) in
    elim (scalar_cases (hex_value all) n.scalar) [ inl e ↦ omega arith | inr e ↦ omega arith ]

pub code_found : (text start second after rest digits : List ℕ) (first : ℕ) →
    text ≡ 123 ∷ start → start ≡ first ∷ second → is_digit first 16 ≡ true →
    Skips is_hex_or_underscore second digits after → after ≡ 125 ∷ rest →
    NamesChar (first ∷ digits) → (piece : List ℕ) × (text ≡ piece ++ rest) × IsCode piece
code_found text start second after rest digits first one two h s e n = (
  123 ∷ first ∷ (digits ++ 125 ∷ []),
  cc (s.cut, append_assoc digits (125 ∷ []) rest),
  (first, digits, refl, h, s.pass, n),
)

-- what fits as a code is this
code_is : (text start second after digits : List ℕ) (first : ℕ) → text ≡ 123 ∷ start →
    start ≡ first ∷ second → Skips is_hex_or_underscore second digits after →
    HasPrefix IsCode text → (rest : List ℕ) × (is_digit first 16 ≡ true) × (after ≡ 125 ∷ rest)
    × NamesChar (first ∷ digits)
code_is text start second after digits first one two s (piece, last, cut, (c, ds, f, h, all, n)) =
    let same : first ≡ c = cc in
    let w = all_stops is_hex_or_underscore digits ds after (125 ∷ last) s.pass all s.stops refl
    (cc (s.cut, append_assoc ds (125 ∷ []) last)) in
    (last, rw same h, w.1, rw (same, w.0) n)

-- bytes
pub byte_escape : (text rest : List ℕ) (c : ℕ) (answer : Option (Bor (List ℕ))) →
    text ≡ c ∷ rest → c ≡ 92 → ReadsPrefix (IsEscape false true) rest answer →
    ReadsPrefix IsByte text answer
byte_escape text rest c None one k misses = λ (piece, after, cut, h). elim h [
  | inl (d, p, e) ↦ not_backslash d (cc) p
  | inr s ↦ finds_after 92 (IsEscape false true) text rest None (cc) misses (piece, after, cut, s)
]
byte_escape text rest c (Some last) one k (piece, cut, s) =
    (92 ∷ piece, cc, inr (piece, refl, s))

pub byte_plain : (text rest : List ℕ) (c : ℕ) → text ≡ c ∷ rest → is_byte c ≡ true →
    (piece : List ℕ) × (text ≡ piece ++ rest) × IsByte piece
byte_plain text rest c e h = (c ∷ [], e, inl (c, h, refl))

-- a code that doesn't end, or names no character
pub code_open : (text start second after digits : List ℕ) (first : ℕ) → text ≡ 123 ∷ start →
    start ≡ first ∷ second → Skips is_hex_or_underscore second digits after →
    ((more : List ℕ) → after ≡ 125 ∷ more → ⊥) → HasPrefix IsCode text → ⊥
code_open text start second after digits first one two s misses f =
    let w = code_is text start second after digits first one two s f in misses w.0 w.2

pub code_unnamed : (text start second after digits named : List ℕ) (first : ℕ) →
    text ≡ 123 ∷ start → start ≡ first ∷ second → Skips is_hex_or_underscore second digits
    after → named ≡ first ∷ digits → (NamesChar named → ⊥) → HasPrefix IsCode text → ⊥
code_unnamed text start second after digits named first one two s e misses f =
    let w = code_is text start second after digits first one two s f in
    misses (rw e w.3)

pub code_front : (start second after digits : List ℕ) (first : ℕ) → start ≡ first ∷ second →
    Skips is_hex_or_underscore second digits after → start ≡ (first ∷ digits) ++ after
code_front start second after digits first e s = cc (s.cut)

pub hex_from : (c d : ℕ) → (digit_value c < 16) × (d ≡ digit_value c) → is_hex c ≡ true
hex_from c d (l, e) = lt-ltb (digit_value c) 16 l

pub hex_not : (c : ℕ) → (digit_value c < 16 → ⊥) → is_hex c ≡ false
hex_not c h = false_from_ne_true (is_hex c) (λ e. h (ltb-true (digit_value c) 16 e))
