-- The text of a made C string literal is read as one in sources, and its value is the bytes.
use Rattle.std.proofs.Common.{◌≡◌, ◌∙◌, ℕ, suc, ◌<◌, List, [], ◌∷◌, ◌++◌, None, Some}
use Rattle.std.proofs.Common.{true, false, refl, sym, ap, inl, append_assoc, arith}
use Rattle.std.specs.Ffi.{HasNoNul}
use Rattle.std.specs.Prelude.{◌==◌, codes, map}
use Rattle.std.specs.Char.Escape.{escape_ascii}
use Rattle.std.specs.List.{flat_map, list_any, range_with_len}
use Rattle.std.specs.Str.{chars}
use Rattle.std.proofs.lemmas.Bool.{false≢true}
use Rattle.std.proofs.lemmas.List.Folds.{list_any-append}
use Rattle.tok_lexical.specs.Contents.{has_return, has_zero, is_wrong}
use Rattle.tok_lexical.specs.Editions.{reserves_prefixes}
use Rattle.tok_lexical.specs.Errors.{error_kind}
use Rattle.tok_lexical.specs.Fits.{IsFirstFit, here, later}
use Rattle.tok_lexical.specs.Pieces.{After, HasPrefix}
use Rattle.tok_lexical.specs.Rules.{Spells, among, rules_of}
use Rattle.tok_lexical.specs.Strings.{AreUnits, IsUnit, escape, no_unit, plain, unit as one_more}
use Rattle.tok_lexical.specs.declared.contents.Contents.TheVariants.{Bytes, C}
use Rattle.tok_lexical.specs.declared.edition.Edition.{Edition}
use Rattle.tok_lexical.specs.declared.edition.Edition.TheVariants.{Edition2015, Edition2018}
use Rattle.tok_lexical.specs.declared.edition.Edition.TheVariants.{Edition2021, Edition2024}
use Rattle.tok_lexical.specs.declared.rule.Mode.TheVariants.{Source}
use Rattle.tok_lexical.specs.declared.rule.Rule.TheVariants.{BadByteChar, QuotedString}
use Rattle.tok_lexical.specs.declared.start.Start.TheVariants as start
use Rattle.tok_lexical.proofs.BareReturns.{none_bare}
use Rattle.tok_lexical.proofs.EscapedChars.{heads}
use Rattle.tok_lexical.proofs.First.{decides_begun}
use Rattle.tok_leaves.specs.Quoting.{bytes_between}
use Rattle.tok_values.specs.CStrings.{c_unit}
use Rattle.tok_values.specs.Laws.{AreBytes, IsOnePiece}
use Rattle.tok_values.specs.Strings.{MeansBy, more, nothing}
use Rattle.tok_values.specs.Suffixed.{IsCStrValue}
use Rattle.tok_values.proofs.Bytes.{all_even, both_even, byte_unit, each_from, is_odd, made, no_return}
use Rattle.tok_values.proofs.Written.{whole}
use Rattle.tok_values.proofs.Zeros.{has_null, no_misfit}
use Rattle.tok_lexical.specs.Private.Starts.{beginning}

-- what holds of each byte but zero holds of this one, by computing
each : {X : Type 0} (f g : ℕ → X) (d : X) (b : ℕ) →
    map f (range_with_len 1 255) ≡ map g (range_with_len 1 255) → (b ≡ 0 → ⊥) → b < 256 → f b ≡ g b
each f g d b same some h = each_from 1 255 f g d b same (omega (arith, some)) (omega (arith, h))

-- its value
byte_value : (b : ℕ) (rest : List ℕ) → (b ≡ 0 → ⊥) → b < 256 →
    c_unit (escape_ascii b ++ rest) ≡ Some (b ∷ [], rest)
unfolding lib.Utf8.encode
byte_value b rest some h =
    each (λ c. c_unit (escape_ascii c ++ rest)) (λ c. Some (c ∷ [], rest)) None b refl some h

-- no escape before the rest names U+0000
byte_no_zero : (b : ℕ) (rest : List ℕ) → (b ≡ 0 → ⊥) → b < 256 →
    has_zero false (escape_ascii b ++ rest) ≡ has_zero false rest
byte_no_zero b rest some h =
    each (λ c. has_zero false (escape_ascii c ++ rest)) (λ _. has_zero false rest) true b refl some
    h

byte_no_null : (b : ℕ) → (b ≡ 0 → ⊥) → b < 256 → has_null (escape_ascii b) ≡ false
byte_no_null b some h = each (λ c. has_null (escape_ascii c)) (λ _. false) true b refl some h

-- a unit of bytes is one of a C string
c_unit_of : {text : List ℕ} → IsUnit Bytes text → IsUnit C text
c_unit_of (plain c p q) = plain c p q
c_unit_of (escape e) = escape (inl e)

-- of all bytes
abbrev AreSome : List ℕ → Type 0
AreSome [] = Unit {0}
AreSome (b ∷ bytes) = ((b ≡ 0 → ⊥) × (b < 256)) × AreSome bytes

are_some : (bytes : List ℕ) → AreBytes bytes → HasNoNul bytes → AreSome bytes
are_some [] h none = tt
are_some (b ∷ bytes) h none =
    ((none 0 (omega arith), h.0), are_some bytes h.1 (λ i l. none (suc i) (omega arith)))

all_units : (bytes : List ℕ) → AreSome bytes → AreUnits C (flat_map escape_ascii bytes)
all_units [] h = no_unit
all_units (b ∷ bytes) h = one_more (c_unit_of (byte_unit b h.0.1)) (all_units bytes h.1)

all_mean : (bytes : List ℕ) → AreSome bytes →
    MeansBy c_unit (flat_map escape_ascii bytes ++ 34 ∷ []) (34 ∷ []) bytes
all_mean [] h = nothing (34 ∷ [])
all_mean (b ∷ bytes) h =
    let rest = flat_map escape_ascii bytes ++ 34 ∷ [] in
    more ((escape_ascii b ++ flat_map escape_ascii bytes) ++ 34 ∷ []) rest (34 ∷ []) (b ∷ []) bytes
    (rw append_assoc (byte_value b rest h.0.0 h.0.1)) (all_mean bytes h.1)

all_no_zero : (bytes : List ℕ) → AreSome bytes →
    has_zero false (flat_map escape_ascii bytes ++ 34 ∷ []) ≡ false
all_no_zero [] h = refl
all_no_zero (b ∷ bytes) h =
    rw (append_assoc, byte_no_zero b (flat_map escape_ascii bytes ++ 34 ∷ []) h.0.0 h.0.1)
    (all_no_zero bytes h.1)

both_no_null : (xs ys : List ℕ) → has_null xs ≡ false → has_null ys ≡ false →
    has_null (xs ++ ys) ≡ false
both_no_null xs ys h k = rw (list_any-append (λ c. c == 0) xs ys, h) k

all_no_null : (bytes : List ℕ) → AreSome bytes → has_null (flat_map escape_ascii bytes) ≡ false
all_no_null [] h = refl
all_no_null (b ∷ bytes) h =
    both_no_null (escape_ascii b) (flat_map escape_ascii bytes) (byte_no_null b h.0.0 h.0.1)
    (all_no_null bytes h.1)

-- no rule of another letter takes what begins with `c`
other_letter : (letter : ℕ) (S : List ℕ → Type 0) (rest : List ℕ) → (letter ≡ 99 → ⊥) →
    HasPrefix (After letter S) (99 ∷ rest) → ⊥
other_letter letter S rest other (piece, after, cut, (others, e, s)) =
    let all : 99 ∷ rest ≡ letter ∷ (others ++ after) = cut ∙ ap (λ w. w ++ after) e in
    other (sym (heads 99 letter _ _ all))

no_start : (rest : List ℕ) → HasPrefix (Spells BadByteChar) (99 ∷ rest) → ⊥
no_start rest (piece, after, cut, e) =
    let all : 99 ∷ rest ≡ 98 ∷ 39 ∷ after = cut ∙ ap (λ w. w ++ after) e in
    absurd (omega (arith, heads 99 98 _ _ all))

-- the first rule that fits, in the editions that have it
module _ (inner : List ℕ) (spelled : Spells (QuotedString C) (99 ∷ 34 ∷ inner)) where
  -- the characters of the literal
  abbrev text : List ℕ
  text = 99 ∷ 34 ∷ inner

  listed : IsFirstFit text (among (Source Edition2021) (beginning start.Prefix)) (QuotedString C)
      text []
  listed =
      later (other_letter 98 _ _ (λ e. omega (arith, e)))
      (later (no_start _)
      (later (other_letter 98 _ _ (λ e. omega (arith, e)))
      (later (other_letter 114 _ _ (λ e. omega (arith, e)))
      (later (other_letter 98 _ _ (λ e. omega (arith, e)))
      (later (other_letter 114 _ _ (λ e. omega (arith, e)))
      (later (other_letter 98 _ _ (λ e. omega (arith, e)))
      (here (whole (Spells (QuotedString C)) text spelled))))))))

  first_fit : (edition : Edition) → reserves_prefixes edition ≡ true →
      IsFirstFit text (rules_of (Source edition)) (QuotedString C) text []
  first_fit Edition2015 h = absurd (false≢true h)
  first_fit Edition2018 h = absurd (false≢true h)
  first_fit Edition2021 h =
      decides_begun (Source Edition2021) 99 (34 ∷ inner) start.Prefix refl refl listed
  first_fit Edition2024 h =
      decides_begun (Source Edition2024) 99 (34 ∷ inner) start.Prefix refl refl listed

pub c_strings_are_read : (edition : Edition) (bytes : List ℕ) → reserves_prefixes edition ≡ true →
    AreBytes bytes → HasNoNul bytes →
    let text = chars (bytes_between (codes "c\"") bytes (codes "\"")) in
    IsOnePiece (Source edition) (QuotedString C) text × IsCStrValue text bytes
c_strings_are_read edition bytes reserves h none =
    rw (made 99 34 bytes (omega arith) (omega arith) refl refl h) (
      (
        first_fit inner (
          34 ∷ inner,
          refl,
          (flat_map escape_ascii bytes, [], refl, all_units bytes some, inl refl),
        )
            edition reserves,
        λ at. unrejected,
      ),
      (
        (
          34 ∷ inner,
          refl,
          inl (inner, refl, (34 ∷ [], all_mean bytes some, ([], refl, inl refl))),
        ),
        none,
      ),
    )
  where
    some : AreSome bytes
    some = are_some bytes h none

    inner : List ℕ
    inner = flat_map escape_ascii bytes ++ 34 ∷ []

    piece : List ℕ
    piece = 99 ∷ 34 ∷ inner

    even : list_any is_odd piece ≡ false
    even =
        both_even (99 ∷ 34 ∷ []) inner refl
        (both_even (flat_map escape_ascii bytes) (34 ∷ []) (all_even bytes h) refl)

    seen : has_null piece ≡ false
    seen =
        both_no_null (99 ∷ 34 ∷ []) inner refl
        (both_no_null (flat_map escape_ascii bytes) (34 ∷ []) (all_no_null bytes some) refl)

    right : is_wrong C piece ≡ false
    right =
        rw (none_bare piece (has_return piece) (λ e. e) (no_return piece even))
        (rw (no_misfit piece seen) (all_no_zero bytes some))

    unrejected : error_kind (QuotedString C) (Source edition) 0 piece [] ≡ None
    unrejected = rw right
