-- The values of raw strings.
use Rattle.std.proofs.Common.{◌≡◌, ◌∙◌, ◌++◌, ◌∷◌, [], ap, append_assoc, eqb-true, false, List}
use Rattle.std.proofs.Common.{None, refl, Some, sym, true, ℕ}
use Rattle.std.specs.Borrow.{Bor}
use Rattle.std.specs.Prelude.{◌==◌, IfSome, MatchOption, Option}
use Rattle.std.specs.List.{list_all}
use Rattle.std.specs.Str.{chars, IsUtf8}
use Rattle.std.proofs.lemmas.Bool.{and_parts}
use Rattle.std.proofs.lemmas.List.{append_cancel_right}
use Rattle.std.proofs.lemmas.Str.{encodes-chars}
use Rattle.tok_lexical.specs.Pieces.{begins_with}
use Rattle.tok_lexical.specs.Words.{IsSuffix}
use Rattle.tok_lexical.proofs.Digits.{all_stops}
use Rattle.tok_lexical.specs.RawQuotes.{InRawQuotes}
use Rattle.tok_values.specs.RawStrings.{IsRawStringValue}
use Rattle.tok_values.specs.Suffixed.{InRaw}
use Rattle.tok_values.specs.Suffixes.{is_mark, literal_suffix}
use Rattle.tok_values.proofs.Endings.{quoted_have_their_suffix}

-- what functions that look for the values of raw strings return
abbrev pub ReadsRaw : List ℕ → Option (Bor (List ℕ)) → Type 0
ReadsRaw text answer =
    MatchOption answer ((value : List ℕ) → IsRawStringValue text value → ⊥)
    (λ value. IsRawStringValue text value.now)

-- after `r`, what is between the quotes
pub raw_value : (text quoted : List ℕ) → text ≡ 114 ∷ quoted → (answer : Option (Bor (List ℕ))) →
    IfSome answer (λ value. IsUtf8 value.now) →
    MatchOption answer ((contents : List ℕ) → InRawQuotes quoted contents → ⊥)
    (λ contents. InRawQuotes quoted (chars contents.now)) → ReadsRaw text answer
raw_value text quoted e None u none = λ value (inner, f, (contents, h, is)).
    let same : inner ≡ quoted = cc in none contents (rw same at h)
raw_value text quoted e (Some value) u read =
    (quoted, e, (chars value.now, read, sym (encodes-chars value.now u)))

-- A raw string ends with a quote or a number sign, and so its suffix is what follows the last of
-- these.
sign_mark : (c : ℕ) → (c == 35) ≡ true → is_mark c ≡ true
sign_mark c h = rw (eqb-true c 35 h)

last_mark : (c : ℕ) (signs : List ℕ) → is_mark c ≡ true → list_all (λ d. d == 35) signs ≡ true →
    (front : List ℕ) × (mark : ℕ) × (is_mark mark ≡ true) × (c ∷ signs ≡ front ++ mark ∷ [])
last_mark c [] h a = ([], c, h, refl)
last_mark c (x ∷ signs) h a =
    let both = and_parts (x == 35) (list_all (λ d. d == 35) signs) a in
    let (front, mark, is, e) = last_mark x signs (sign_mark x both.0) both.1 in
    (c ∷ front, mark, is, cc)

pub raw_ends : (raw value : List ℕ) → IsRawStringValue raw value →
    (front : List ℕ) × (mark : ℕ) × (is_mark mark ≡ true) × (raw ≡ (114 ∷ front) ++ mark ∷ [])
raw_ends raw value (quoted, e, (contents, (signs, f, a, l, m), is)) =
    let (front, mark, last, g) = last_mark 34 signs refl a in (
      signs ++ 34 ∷ (contents ++ front),
      mark,
      last,
      rw (e, f, g) (simp append_assoc),
    )

pub raw_suffix : (text raw suffix value : List ℕ) → text ≡ raw ++ suffix →
    IsRawStringValue raw value → IsSuffix suffix → literal_suffix text ≡ suffix
raw_suffix text raw suffix value cut h s =
    let (front, mark, is, e) = raw_ends raw value h in
    let whole : text ≡ (114 ∷ front) ++ mark ∷ suffix =
    cc (append_assoc (114 ∷ front) (mark ∷ []) suffix) in
    rw whole (quoted_have_their_suffix (114 ∷ front) mark suffix is s refl)

-- what a function that looks for a raw string with any suffix returns
module _ (text : List ℕ) where
  pub no_raw : begins_with 114 text ≡ false → (value : List ℕ) → InRaw text value → ⊥
  no_raw h value (raw, suffix, cut, (quoted, e, read), s) = cc

  pub no_raw_suffix : (IsSuffix (literal_suffix text) → ⊥) → (value : List ℕ) → InRaw text value → ⊥
  no_raw_suffix never value (raw, suffix, cut, h, s) =
      never (rw (raw_suffix text raw suffix value cut h s) s)

  pub raw_found : (before : List ℕ) → before ++ literal_suffix text ≡ text →
      IsSuffix (literal_suffix text) → (answer : Option (Bor (List ℕ))) → ReadsRaw before answer →
      MatchOption answer ((value : List ℕ) → InRaw text value → ⊥) (λ value. InRaw text value.now)
  raw_found before cut s (Some value) h = (before, literal_suffix text, sym cut, h, s)
  raw_found before cut s None h = λ value (raw, suffix, e, read, k).
      let same : literal_suffix text ≡ suffix = raw_suffix text raw suffix value e read k in
      let one : raw ≡ before =
      append_cancel_right raw before suffix (sym e ∙ sym cut ∙ ap (λ w. before ++ w) same) in
      h value (rw one at read)

-- a text is a raw string of one value
contents_once : (text a b : List ℕ) → InRawQuotes text a → InRawQuotes text b → a ≡ b
contents_once text a b (signs, e, p, l, m) (others, f, q, k, n) =
    let w = all_stops (λ c. c == 35) signs others _ _ p q refl refl (sym e ∙ f) in
    append_cancel_right a b (34 ∷ signs) (cc (w.0, w.1))

string_once : (raw a b : List ℕ) → IsRawStringValue raw a → IsRawStringValue raw b → a ≡ b
string_once raw a b (quoted, e, (x, h, is)) (other, f, (y, k, so)) =
    let one : other ≡ quoted = cc in
    let same = contents_once quoted x y h (rw one at k) in cc

pub raw_once : (text a b : List ℕ) → InRaw text a → InRaw text b → a ≡ b
raw_once text a b (raw, suffix, cut, h, s) (other, ending, e, k, t) =
    let same : suffix ≡ ending =
    sym (raw_suffix text raw suffix a cut h s) ∙ raw_suffix text other ending b e k t in
    let one : other ≡ raw =
    append_cancel_right other raw ending (sym e ∙ cut ∙ ap (λ w. raw ++ w) same) in
    string_once raw a b h (rw one at k)
