-- Quotes and apostrophes with a suffix after them, and the units of C strings.
use Rattle.std.proofs.Common.{◌≡◌, ◌∙◌, ◌∷◌, [], ap, Bool, false, List, None, Option, Some}
use Rattle.std.proofs.Common.{inl, inr, refl, sym, true, ℕ}
use Rattle.std.specs.Ffi.{HasNoNul}
use Rattle.std.specs.Prelude.{◌==◌, ◌⊎◌, Err, IfOk, length, MatchBool, MatchOption, Ok, Result}
use Rattle.std.specs.Str.{chars, IsUtf8}
use Rattle.std.proofs.lemmas.Bool.{false≢true}
use Rattle.std.proofs.lemmas.Str.{chars-nil}
use Rattle.tok_lexical.specs.Pieces.{After, begins_with}
use Rattle.tok_lexical.specs.Words.{IsIdentifier, IsSuffix}
use Rattle.tok_lexical.proofs.Texts.{some_left}
use Rattle.tok_leaves.proofs.Names.{no_text}
use Rattle.tok_values.specs.CStrings.{bytes_of, c_unit, names_byte}
use Rattle.tok_values.specs.Strings.{InQuotes, MeansBy, unit}
use Rattle.tok_values.specs.Suffixed.{IsCStrValue, IsStringBy}
use Rattle.tok_values.proofs.RawStrings.{no_raw, raw_once}
use Rattle.tok_values.proofs.Units.{read_once}
use Rattle.tok_values.proofs.Letters.{after_none}

pub no_suffix : (text : List ℕ) (b : Bool) → b ≡ (length text == 0) → b ≡ true →
    MatchBool b (IsSuffix (chars text)) (IsSuffix (chars text) → ⊥)
no_suffix text true e h = inl (ap chars (no_text text (sym e)) ∙ chars-nil)
no_suffix text false e h = absurd (false≢true h)

pub no_rest : (text : List ℕ) (b : Bool) → IsUtf8 text → b ≡ (length text == 0) →
    MatchBool b (chars text ≡ []) (chars text ≡ [] → ⊥)
no_rest text true u e = ap chars (no_text text (sym e)) ∙ chars-nil
no_rest text false u e = some_left text u (sym e)

pub some_suffix : (text : List ℕ) (b : Bool) → IsUtf8 text → (length text == 0) ≡ false →
    MatchBool b (IsIdentifier (chars text)) (IsIdentifier (chars text) → ⊥) →
    MatchBool b (IsSuffix (chars text)) (IsSuffix (chars text) → ⊥)
some_suffix text true u some h = inr h
some_suffix text false u some h = λ s. elim s [ inl e ↦ some_left text u some e | inr i ↦ h i ]

-- no other quotes are there
module _ (Tail : List ℕ → Type 0) (unit_of : List ℕ → Option (List ℕ × List ℕ))
    (stops : (rest : List ℕ) → unit_of (34 ∷ rest) ≡ None) (text inner rest meaning : List ℕ)
    (cut : text ≡ 34 ∷ inner) (reads : MeansBy unit_of inner rest meaning) where
  pub not_quoted : unit_of rest ≡ None → (After 34 Tail rest → ⊥) → (other : List ℕ) →
      InQuotes Tail unit_of text other → ⊥
  not_quoted ends never other (inside, e, (left, read, (suffix, f, s))) =
      let same : inside ≡ inner = cc in
      let one = read_once unit_of inner left rest other meaning (rw same at read) reads
      (rw f (stops suffix)) ends in
      never (suffix, sym one.0 ∙ f, s)

pub quote_stops : (wide : Bool) (rest : List ℕ) → unit wide (34 ∷ rest) ≡ None
quote_stops wide rest = refl

pub c_quote_stops : (rest : List ℕ) → c_unit (34 ∷ rest) ≡ None
c_quote_stops rest = refl

-- the front of a C string is no unit, or it is one
pub c_none : (text : List ℕ) (is_byte : Bool) → is_byte ≡ names_byte text → unit is_byte text ≡ None
    → c_unit text ≡ None
c_none text is_byte e h = rw (← e, h)

pub c_some : (text characters rest : List ℕ) (is_byte : Bool) → is_byte ≡ names_byte text →
    unit is_byte text ≡ Some (characters, rest) →
    c_unit text ≡ Some (bytes_of is_byte characters, rest)
c_some text characters rest is_byte e h = rw (← e, h)

-- a string has one value
module _ (unit_of : List ℕ → Option (List ℕ × List ℕ))
    (stops : (rest : List ℕ) → unit_of (34 ∷ rest) ≡ None) where
  pub quotes_once : (text a b : List ℕ) → InQuotes IsSuffix unit_of text a →
      InQuotes IsSuffix unit_of text b → a ≡ b
  quotes_once text a b (inner, cut, (rest, read, (suffix, e, s)))
      (inside, f, (left, other, (end, g, t))) =
      let same : inside ≡ inner = cc in
      (read_once unit_of inner rest left a b read (rw same at other) (rw e (stops suffix))
      (rw g (stops end))).1

  pub string_once : (text a b : List ℕ) → IsStringBy unit_of text a → IsStringBy unit_of text b →
      a ≡ b
  string_once text a b (inl p) (inl q) = quotes_once text a b p q
  string_once text a b (inl p) (inr q) = absurd (no_raw text (ap (begins_with 114) p.1) b q)
  string_once text a b (inr p) (inl q) = absurd (no_raw text (ap (begins_with 114) q.1) a p)
  string_once text a b (inr p) (inr q) = raw_once text a b p q

-- what the functions of the crate return
module _ {S E : Type 0} (bytes : S → List ℕ) where
  -- of texts that are no raw string
  pub or_raw : (P Q : List ℕ → Type 0) (r : Result (Option S) E) →
      IfOk r (λ o. MatchOption o ((v : List ℕ) → P v → ⊥) (λ s. P (bytes s))) →
      ((v : List ℕ) → Q v → ⊥) →
      IfOk r (λ o. MatchOption o ((v : List ℕ) → (P v ⊎ Q v) → ⊥) (λ s. P (bytes s) ⊎ Q (bytes s)))
  or_raw P Q (Ok (Some s)) h none = inl h
  or_raw P Q (Ok None) h none = λ v w. elim w [ inl p ↦ h v p | inr q ↦ none v q ]
  or_raw P Q (Err e) h none = tt

  -- after a letter
  pub after_letter : (P : List ℕ → List ℕ → Type 0) (letter : ℕ) (text string : List ℕ) →
      text ≡ letter ∷ string → (r : Result (Option S) E) →
      IfOk r (λ o. MatchOption o ((v : List ℕ) → P string v → ⊥) (λ s. P string (bytes s))) →
      IfOk r (λ o. MatchOption o ((v : List ℕ) → After letter (λ w. P w v) text → ⊥)
      (λ s. After letter (λ w. P w (bytes s)) text))
  after_letter P letter text string e (Ok (Some s)) h = (string, e, h)
  after_letter P letter text string e (Ok None) h = after_none letter P text string e h
  after_letter P letter text string e (Err x) h = tt

  -- with a zero after the bytes
  pub c_ended : (text string read : List ℕ) → text ≡ 99 ∷ string → IsStringBy c_unit string read →
      (r : Result (Option S) E) →
      IfOk r (λ o. MatchOption o (HasNoNul read → ⊥) (λ s. (bytes s ≡ read) × HasNoNul read)) →
      IfOk r (λ o. MatchOption o ((v : List ℕ) → IsCStrValue text v → ⊥)
      (λ s. IsCStrValue text (bytes s)))
  c_ended text string read e is (Ok (Some s)) h = (
    (string, e, rw h.0 is),
    rw h.0 h.1,
  )
  c_ended text string read e is (Ok None) h =
      λ v ((w, f, p), some).
      let same : w ≡ string = cc in
      h (rw (string_once c_unit c_quote_stops string v read (rw same at p) is) at some)
  c_ended text string read e is (Err x) h = tt

pub c_other : (text string : List ℕ) → text ≡ 99 ∷ string →
    ((v : List ℕ) → IsStringBy c_unit string v → ⊥) → (v : List ℕ) → IsCStrValue text v → ⊥
c_other text string e none v ((w, f, p), some) = let same : w ≡ string = cc in none v (rw same at p)
