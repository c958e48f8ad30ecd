-- A C string means what the string after its `c` means.
use Rattle.std.proofs.Common.{◌≡◌, ◌∙◌, ℕ, ◌+◌, ◌*◌, ◌<◌, List, [], ◌∷◌, None, Option, Some}
use Rattle.std.proofs.Common.{false, true, ap, arith, eqb-true, inl, inr, refl, sym}
use Rattle.std.specs.Prelude.{◌==◌, ◌&&◌, encode_utf8_all, option_map}
use Rattle.std.specs.Char.{digit_value, is_digit}
use Rattle.std.proofs.lemmas.Bool.{and_parts, and_right, cases_Bool, lt-ltb, ltb-true}
use Rattle.std.proofs.lemmas.Option.{cond_some}
use Rattle.std.proofs.lemmas.Str.{encodes-append}
use Rattle.tok_values.specs.CStrings.{bytes_of, c_unit, names_byte}
use Rattle.tok_values.specs.Escapes.{hex}
use Rattle.tok_values.specs.Laws.{CStringsAgree}
use Rattle.tok_values.specs.Strings.{Means, MeansBy, alone, more, nothing, unit}
use Rattle.tok_values.proofs.Quoted.{one_byte}

-- a byte below 80 has the same two digits in both
abbrev IsNarrow : List ℕ → ℕ → List ℕ → Type 0
IsNarrow text c after = (hex 16 text ≡ Some (c, after)) × (c < 128)

hex_narrow : (text : List ℕ) (c : ℕ) (after : List ℕ) → hex 8 text ≡ Some (c, after) →
    IsNarrow text c after
hex_narrow [] c after e = absurd (cc)
hex_narrow (high ∷ []) c after e = absurd (cc)
hex_narrow (high ∷ low ∷ rest) c after e =
    let (ok, same) = cond_some _ (digit_value high * 16 + digit_value low, rest) (c, after) e in
    let both = and_parts (is_digit high 8) (is_digit low 16) ok in
    let first = ltb-true (digit_value high) 8 both.0 in
    let second = ltb-true (digit_value low) 16 both.1 in
    let wide = lt-ltb (digit_value high) 16 (omega (arith, first)) in
    (cc, omega (arith, first, second, ap (λ (p : ℕ × List ℕ). p.0) same))

-- a unit of a string is one of a C string, in UTF-8
abbrev IsCUnit : List ℕ → List ℕ → List ℕ → Type 0
IsCUnit text front after = c_unit text ≡ Some (encode_utf8_all front, after)

plain_unit : (text front after : List ℕ) → names_byte text ≡ false →
    unit false text ≡ Some (front, after) → IsCUnit text front after
plain_unit text front after e h = rw (e, h)

byte_unit : (rest front after : List ℕ) → unit false (92 ∷ 120 ∷ rest) ≡ Some (front, after) →
    IsCUnit (92 ∷ 120 ∷ rest) front after
byte_unit rest front after h = at (hex 8 rest) refl h
  where
    at : (o : Option (ℕ × List ℕ)) → hex 8 rest ≡ o → alone o ≡ Some (front, after) →
        IsCUnit (92 ∷ 120 ∷ rest) front after
    at None e g = absurd (cc)
    at (Some (c, left)) e g =
        let (wide, low) = hex_narrow rest c left e in
        ap (λ o. option_map (λ p. (bytes_of true p.0, p.1)) (alone o)) wide
        ∙ ap (λ w. Some (w, left)) (sym (one_byte c low))
        ∙ ap (option_map (λ p. (encode_utf8_all p.0, p.1))) g

c_unit_found : (text front after : List ℕ) → unit false text ≡ Some (front, after) →
    IsCUnit text front after
c_unit_found [] front after h = absurd (cc)
c_unit_found (c ∷ []) front after h =
    plain_unit (c ∷ []) front after (and_right (c == 92) false refl) h
c_unit_found (c ∷ d ∷ rest) front after h = elim (cases_Bool ((c == 92) && (d == 120))) [
  | inl e ↦
      let both = and_parts (c == 92) _ e in
      let first = eqb-true c 92 both.0 in
      let second = eqb-true d 120 both.1 in
      rw (first, second) (byte_unit rest front after (rw (first, second) at h))
  | inr e ↦ plain_unit (c ∷ d ∷ rest) front after e h
]

c_means : {text rest meaning : List ℕ} → Means false text rest meaning →
    MeansBy c_unit text rest (encode_utf8_all meaning)
c_means (nothing text) = nothing text
c_means (more text after rest front meaning e m) =
    rw encodes-append
    (more text after rest (encode_utf8_all front) (encode_utf8_all meaning)
    (c_unit_found text front after e) (c_means m))

pub c_strings_agree : CStringsAgree
c_strings_agree text value (inl (characters, (inner, e, (rest, means, end)), is)) some =
    ((text, refl, inl (inner, e, (rest, rw is (c_means means), end))), some)
c_strings_agree text value (inr raw) some = ((text, refl, inr raw), some)
