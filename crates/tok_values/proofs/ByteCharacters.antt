-- The text of a made byte literal is read as one, and its value is the byte.
use Rattle.std.proofs.Common.{◌≡◌, ◌∙◌, ℕ, ◌<◌, List, [], ◌∷◌, ◌++◌, None, Some, Bool, true, false}
use Rattle.std.proofs.Common.{refl, ap, inl, inr, arith, eqb-true}
use Rattle.std.specs.Prelude.{◌==◌, ◌&&◌, codes}
use Rattle.std.specs.Char.{is_digit}
use Rattle.std.specs.Char.Escape.{escape_ascii}
use Rattle.std.specs.Str.{chars}
use Rattle.std.proofs.lemmas.Bool.{and_parts, false≢true}
use Rattle.std.proofs.lemmas.List.{append-nil}
use Rattle.tok_lexical.specs.Fits.{here}
use Rattle.tok_lexical.specs.Rules.{Spells}
use Rattle.tok_lexical.specs.Strings.{IsByte, hex, is_byte, is_hex, is_simple_escape, simple}
use Rattle.tok_lexical.specs.declared.rule.Mode.{Mode}
use Rattle.tok_lexical.specs.declared.rule.Rule.TheVariants.{ByteChar}
use Rattle.tok_lexical.specs.declared.start.Start.TheVariants as start
use Rattle.tok_lexical.proofs.First.{decides_begun}
use Rattle.tok_leaves.specs.Quoting.{bytes_between}
use Rattle.tok_values.specs.Laws.{IsOnePiece}
use Rattle.tok_values.specs.Strings.{IsByteValue, one_char}
use Rattle.tok_values.proofs.Bytes.{each, each_true, made}
use Rattle.tok_values.proofs.Written.{whole}

-- a character that needs no escape, or a backslash and an escape
abbrev is_inner : List ℕ → Bool
is_inner [] = false
is_inner (c ∷ []) = is_byte c
is_inner (a ∷ c ∷ []) = (a == 92) && is_simple_escape c
is_inner (a ∷ x ∷ h ∷ []) = false
is_inner (a ∷ x ∷ h ∷ l ∷ []) = (a == 92) && ((x == 120) && (is_digit h 16 && is_hex l))
is_inner (a ∷ x ∷ h ∷ l ∷ m ∷ rest) = false

inner_from : (text : List ℕ) → is_inner text ≡ true → IsByte text
inner_from [] h = absurd (false≢true h)
inner_from (c ∷ []) h = inl (c, h, refl)
inner_from (a ∷ c ∷ []) h =
    let both = and_parts (a == 92) (is_simple_escape c) h in
    inr (c ∷ [], cc (eqb-true a 92 both.0), simple c both.1)
inner_from (a ∷ x ∷ h ∷ []) e = absurd (false≢true e)
inner_from (a ∷ x ∷ h ∷ l ∷ []) e =
    let one = and_parts (a == 92) _ e in
    let two = and_parts (x == 120) _ one.1 in
    let digits = and_parts (is_digit h 16) (is_hex l) two.1 in
    inr (
      120 ∷ h ∷ l ∷ [],
      cc (eqb-true a 92 one.0, eqb-true x 120 two.0),
      hex (h, l, refl, digits.0, digits.1),
    )
inner_from (a ∷ x ∷ h ∷ l ∷ m ∷ rest) e = absurd (false≢true e)

byte_inner : (b : ℕ) → b < 256 → IsByte (escape_ascii b)
byte_inner b h = inner_from (escape_ascii b) (each_true (λ c. is_inner (escape_ascii c)) b refl h)

byte_value : (b : ℕ) → b < 256 → one_char true (escape_ascii b ++ 39 ∷ []) ≡ Some (b, 39 ∷ [])
byte_value b h =
    each (λ c. one_char true (escape_ascii c ++ 39 ∷ [])) (λ c. Some (c, 39 ∷ [])) None b refl h

pub byte_characters_are_read : (mode : Mode) (byte : ℕ) → byte < 256 →
    let text = chars (bytes_between (codes "b'") (byte ∷ []) (codes "'")) in
    IsOnePiece mode ByteChar text × IsByteValue text byte
byte_characters_are_read mode byte h =
    rw text_is (
      (
        decides_begun mode 98 (39 ∷ inner) start.Prefix refl refl
            (here (whole (Spells ByteChar) (98 ∷ 39 ∷ inner)
            (39 ∷ inner, refl, (escape_ascii byte, [], refl, byte_inner byte h, inl refl)))),
        λ at. refl,
      ),
      (39 ∷ inner, refl, (inner, refl, (39 ∷ [], byte_value byte h, ([], refl, refl)))),
    )
  where
    inner : List ℕ
    inner = escape_ascii byte ++ 39 ∷ []

    text_is : chars (bytes_between (codes "b'") (byte ∷ []) (codes "'")) ≡ 98 ∷ 39 ∷ inner
    text_is =
        made 98 39 (byte ∷ []) (omega arith) (omega arith) refl refl (h, tt)
        ∙ ap (λ w. 98 ∷ 39 ∷ (w ++ 39 ∷ [])) (append-nil (escape_ascii byte))
