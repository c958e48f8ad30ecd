-- The text of a made byte string literal is read as one in sources, and its value is the bytes.
use Rattle.std.proofs.Common.{◌≡◌, ◌∙◌, ℕ, ◌+◌, ◌-◌, ◌≤◌, ◌<◌, List, [], ◌∷◌, ◌++◌, None, Some, Bool, true, false}
use Rattle.std.proofs.Common.{refl, sym, ap, inl, append_assoc, get_or, arith}
use Rattle.std.specs.Prelude.{◌==◌, ◌||◌, ◌&&◌, not, nat_le, codes, encode_utf8_all, map}
use Rattle.std.specs.Char.{is_digit}
use Rattle.std.specs.Char.Escape.{escape_ascii}
use Rattle.std.specs.List.{flat_map, list_any, range_with_len}
use Rattle.std.specs.Str.{chars}
use lib.Utf8.{scalars}
use Rattle.std.proofs.lemmas.Bool.{and_parts, eqb-false, eqb-true, false≢true, not-true, or_parts}
use Rattle.std.proofs.lemmas.List.FromFn.{get_or-map-range_with_len}
use Rattle.std.proofs.lemmas.List.Folds.{list_any-append}
use Rattle.std.proofs.lemmas.Str.{chars-encodes, encodes-append}
use Rattle.tok_lexical.specs.Contents.{has_misfit, has_return, is_wrong}
use Rattle.tok_lexical.specs.Errors.{error_kind}
use Rattle.tok_lexical.specs.Fits.{here, later}
use Rattle.tok_lexical.specs.Pieces.{HasPrefix}
use Rattle.tok_lexical.specs.Rules.{Spells}
use Rattle.tok_lexical.specs.Strings.{AreUnits, IsUnit, escape, hex, is_hex, is_simple_escape}
use Rattle.tok_lexical.specs.Strings.{no_unit, plain, simple, unit as one_more}
use Rattle.tok_lexical.specs.declared.contents.Contents.TheVariants.{Bytes}
use Rattle.tok_lexical.specs.declared.edition.Edition.{Edition}
use Rattle.tok_lexical.specs.declared.rule.Mode.TheVariants.{Source}
use Rattle.tok_lexical.specs.declared.rule.Rule.TheVariants.{BadByteChar, ByteChar, QuotedString}
use Rattle.tok_lexical.specs.declared.start.Start.TheVariants as start
use Rattle.tok_lexical.proofs.BareReturns.{none_bare}
use Rattle.tok_lexical.proofs.EscapedChars.{heads, tails}
use Rattle.tok_lexical.proofs.First.{decides_begun}
use Rattle.tok_leaves.specs.Quoting.{bytes_between, escaped_byte}
use Rattle.tok_values.specs.Laws.{AreBytes, IsOnePiece}
use Rattle.tok_values.specs.Strings.{IsBytesValue, Means, more, nothing, unit}
use Rattle.tok_values.proofs.Quoted.{one_byte, scalars-append, two}
use Rattle.tok_values.proofs.Written.{whole}

-- what holds of each number of a range holds of this one, by computing
pub each_from : {X : Type 0} (first count : ℕ) (f g : ℕ → X) (d : X) (b : ℕ) →
    map f (range_with_len first count) ≡ map g (range_with_len first count) → first ≤ b →
    b < first + count → f b ≡ g b
each_from first count f g d b same low high =
    sym (get_or-map-range_with_len f first count (b - first) b d (omega arith) (omega arith))
    ∙ ap (λ w. get_or w (b - first) d) same
    ∙ get_or-map-range_with_len g first count (b - first) b d (omega arith) (omega arith)

pub each : {X : Type 0} (f g : ℕ → X) (d : X) (b : ℕ) →
    map f (range_with_len 0 256) ≡ map g (range_with_len 0 256) → b < 256 → f b ≡ g b
each f g d b same h = each_from 0 256 f g d b same (omega arith) (omega (arith, h))

pub each_true : (f : ℕ → Bool) (b : ℕ) →
    map f (range_with_len 0 256) ≡ map (λ _. true) (range_with_len 0 256) → b < 256 → f b ≡ true
each_true f b same h = each f (λ _. true) false b same h

-- its value
byte_value : (b : ℕ) (rest : List ℕ) → b < 256 →
    unit true (escape_ascii b ++ rest) ≡ Some (b ∷ [], rest)
byte_value b rest h =
    each (λ c. unit true (escape_ascii c ++ rest)) (λ c. Some (c ∷ [], rest)) None b refl h

-- it is a unit
abbrev pub is_unit : List ℕ → Bool
is_unit [] = false
is_unit (c ∷ []) = not (c == 34) && not (c == 92)
is_unit (a ∷ c ∷ []) = (a == 92) && is_simple_escape c
is_unit (a ∷ x ∷ h ∷ []) = false
is_unit (a ∷ x ∷ h ∷ l ∷ []) = (a == 92) && ((x == 120) && (is_digit h 16 && is_hex l))
is_unit (a ∷ x ∷ h ∷ l ∷ m ∷ rest) = false

unit_from : (text : List ℕ) → is_unit text ≡ true → IsUnit Bytes text
unit_from [] h = absurd (false≢true h)
unit_from (c ∷ []) h =
    let both = and_parts (not (c == 34)) (not (c == 92)) h in
    plain c (eqb-false c 34 (not-true _ both.0)) (eqb-false c 92 (not-true _ both.1))
unit_from (a ∷ c ∷ []) h =
    let both = and_parts (a == 92) (is_simple_escape c) h in
    rw (eqb-true a 92 both.0) (escape (simple c both.1))
unit_from (a ∷ x ∷ h ∷ []) e = absurd (false≢true e)
unit_from (a ∷ x ∷ h ∷ l ∷ []) e =
    let one = and_parts (a == 92) _ e in
    let two = and_parts (x == 120) _ one.1 in
    let digits = and_parts (is_digit h 16) (is_hex l) two.1 in
    rw (eqb-true a 92 one.0, eqb-true x 120 two.0) (escape (hex (h, l, refl, digits.0, digits.1)))
unit_from (a ∷ x ∷ h ∷ l ∷ m ∷ rest) e = absurd (false≢true e)

pub byte_unit : (b : ℕ) → b < 256 → IsUnit Bytes (escape_ascii b)
byte_unit b h = unit_from (escape_ascii b) (each_true (λ c. is_unit (escape_ascii c)) b refl h)

-- none of its characters is a U+000D or beyond ASCII
abbrev pub is_odd : ℕ → Bool
is_odd c = (c == 13) || nat_le 128 c

byte_even : (b : ℕ) → b < 256 → list_any is_odd (escape_ascii b) ≡ false
byte_even b h = each (λ c. list_any is_odd (escape_ascii c)) (λ _. false) true b refl h

byte_scalars : (b : ℕ) → b < 256 → scalars (escape_ascii b) ≡ true
byte_scalars b h = each_true (λ c. scalars (escape_ascii c)) b refl h

-- of all bytes
all_units : (bytes : List ℕ) → AreBytes bytes → AreUnits Bytes (flat_map escape_ascii bytes)
all_units [] h = no_unit
all_units (b ∷ bytes) h = one_more (byte_unit b h.0) (all_units bytes h.1)

all_means : (bytes : List ℕ) → AreBytes bytes →
    Means true (flat_map escape_ascii bytes ++ 34 ∷ []) (34 ∷ []) bytes
all_means [] h = nothing (34 ∷ [])
all_means (b ∷ bytes) h =
    let rest = flat_map escape_ascii bytes ++ 34 ∷ [] in
    more ((escape_ascii b ++ flat_map escape_ascii bytes) ++ 34 ∷ []) rest (34 ∷ []) (b ∷ []) bytes
    (rw append_assoc (byte_value b rest h.0)) (all_means bytes h.1)

pub both_even : (xs ys : List ℕ) → list_any is_odd xs ≡ false → list_any is_odd ys ≡ false →
    list_any is_odd (xs ++ ys) ≡ false
both_even xs ys h k = rw (list_any-append is_odd xs ys, h) k

pub all_even : (bytes : List ℕ) → AreBytes bytes →
    list_any is_odd (flat_map escape_ascii bytes) ≡ false
all_even [] h = refl
all_even (b ∷ bytes) h =
    both_even (escape_ascii b) (flat_map escape_ascii bytes) (byte_even b h.0) (all_even bytes h.1)

all_scalars : (bytes : List ℕ) → AreBytes bytes → scalars (flat_map escape_ascii bytes) ≡ true
all_scalars [] h = refl
all_scalars (b ∷ bytes) h =
    scalars-append (escape_ascii b) (flat_map escape_ascii bytes) (byte_scalars b h.0)
    (all_scalars bytes h.1)

all_encoded : (bytes : List ℕ) →
    encode_utf8_all (flat_map escape_ascii bytes) ≡ flat_map escaped_byte bytes
all_encoded [] = refl
all_encoded (b ∷ bytes) =
    cc (encodes-append (escape_ascii b) (flat_map escape_ascii bytes), all_encoded bytes)

-- the characters of the literal, between a prefix with a mark and the mark
pub made : (prefix mark : ℕ) (bytes : List ℕ) → prefix < 128 → mark < 128 →
    scalars (prefix ∷ mark ∷ []) ≡ true → scalars (mark ∷ []) ≡ true → AreBytes bytes →
    chars (bytes_between (prefix ∷ mark ∷ []) bytes (mark ∷ []))
    ≡ prefix ∷ mark ∷ (flat_map escape_ascii bytes ++ mark ∷ [])
made prefix mark bytes p q both last h =
    let inner = flat_map escape_ascii bytes ++ mark ∷ [] in
    let opening : List ℕ = prefix ∷ mark ∷ [] in
    let first = encodes-append opening inner in
    let last_two = encodes-append (flat_map escape_ascii bytes) (mark ∷ []) in
    let encoded : encode_utf8_all (opening ++ inner) ≡ bytes_between opening bytes (mark ∷ []) =
    cc (two prefix mark p q, all_encoded bytes, one_byte mark q) in
    rw (← encoded) (chars-encodes (prefix ∷ mark ∷ inner)
    (scalars-append opening inner both
    (scalars-append (flat_map escape_ascii bytes) (mark ∷ []) (all_scalars bytes h) last)))

-- what no odd character is in
pub no_return : (text : List ℕ) → list_any is_odd text ≡ false → has_return text ≡ false
no_return [] h = refl
no_return (c ∷ text) h =
    let even = or_parts (is_odd c) _ h in
    let other = or_parts (c == 13) _ even.0 in
    cc (no_return text even.1)

no_misfit : (text : List ℕ) → list_any is_odd text ≡ false → has_misfit Bytes text ≡ false
no_misfit [] h = refl
no_misfit (c ∷ text) h =
    let even = or_parts (is_odd c) _ h in
    let other = or_parts (c == 13) _ even.0 in
    cc (no_misfit text even.1)

fits : (text : List ℕ) → list_any is_odd text ≡ false → is_wrong Bytes text ≡ false
fits text h = rw (none_bare text (has_return text) (λ e. e) (no_return text h)) (no_misfit text h)

-- no byte character begins so
module _ (inner : List ℕ) where
  no_byte : HasPrefix (Spells ByteChar) (98 ∷ 34 ∷ inner) → ⊥
  no_byte (piece, after, cut, (m, e, (quoted, suffix, f, s, k))) =
      let all : 98 ∷ 34 ∷ inner ≡ 98 ∷ 39 ∷ ((quoted ++ 39 ∷ suffix) ++ after) =
      cut ∙ ap (λ w. w ++ after) (e ∙ ap (λ w. 98 ∷ w) f) in
      absurd (omega (arith, heads 34 39 _ _ (tails 98 98 _ _ all)))

  no_start : HasPrefix (Spells BadByteChar) (98 ∷ 34 ∷ inner) → ⊥
  no_start (piece, after, cut, e) =
      let all : 98 ∷ 34 ∷ inner ≡ 98 ∷ 39 ∷ after = cut ∙ ap (λ w. w ++ after) e in
      absurd (omega (arith, heads 34 39 _ _ (tails 98 98 _ _ all)))

pub byte_strings_are_read : (edition : Edition) (bytes : List ℕ) → AreBytes bytes →
    let text = chars (bytes_between (codes "b\"") bytes (codes "\"")) in
    IsOnePiece (Source edition) (QuotedString Bytes) text × IsBytesValue text bytes
byte_strings_are_read edition bytes h =
    rw (made 98 34 bytes (omega arith) (omega arith) refl refl h) (
      (
        decides_begun (Source edition) 98 (34 ∷ inner) start.Prefix refl refl
            (later (no_byte inner) (later (no_start inner)
            (here (whole (Spells (QuotedString Bytes)) (98 ∷ 34 ∷ inner) (
              34 ∷ inner,
              refl,
              (flat_map escape_ascii bytes, [], refl, all_units bytes h, inl refl),
            ))))),
        λ at. unrejected,
      ),
      (34 ∷ inner, refl, (inner, refl, (34 ∷ [], all_means bytes h, ([], refl, refl)))),
    )
  where
    inner : List ℕ
    inner = flat_map escape_ascii bytes ++ 34 ∷ []

    unrejected : error_kind (QuotedString Bytes) (Source edition) 0 (98 ∷ 34 ∷ inner) [] ≡ None
    unrejected =
        let right = fits (98 ∷ 34 ∷ inner)
        (both_even (98 ∷ 34 ∷ []) inner refl
        (both_even (flat_map escape_ascii bytes) (34 ∷ []) (all_even bytes h) refl)) in
        rw right
