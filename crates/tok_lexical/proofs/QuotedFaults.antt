-- What is wrong with a quoted literal: it is found once, and nothing is if the literal is whole.
use Rattle.std.proofs.Common.{◌≡◌, ◌∙◌, ℕ, inl, inr, List, [], ◌∷◌, ◌++◌, Bool, true, ap}
use Rattle.std.proofs.Common.{append_assoc, arith, refl, sym}
use Rattle.std.proofs.lemmas.Bool.Decides.{eqb_tells}
use Rattle.std.proofs.lemmas.List.{append-nil}
use Rattle.std.proofs.lemmas.Option.{none-some}
use Rattle.std.specs.Prelude.{◌==◌, ◌↔◌, Option, Some, None, if◌then◌else◌}
use Rattle.std.specs.Borrow.{Bor}
use Rattle.tok_lexical.specs.Pieces.{HasPrefix, IsOne, Skips, begins_with}
use Rattle.tok_lexical.specs.Private.Finds.{ReadsPrefix}
use Rattle.tok_lexical.specs.QuotedFaults.{IsCharFault, IsStringFault, IsQuotedFault}
use Rattle.tok_lexical.specs.QuotedFaults.{IsRawFault, OpensRaw, byte, character}
use Rattle.tok_lexical.specs.QuotedFaults.{opening_quote, other, raw, raw_letters, stop_fault}
use Rattle.tok_lexical.specs.QuotedFaults.{string, too_many, unclosed, unless_closed, whole}
use Rattle.tok_lexical.specs.Raw.{IsRaw, IsRawString}
use Rattle.tok_lexical.specs.Strings.{AreUnits, IsByte, IsChar, IsEscapedChar, IsQuoted}
use Rattle.tok_lexical.specs.Strings.{IsString, IsUnit, is_char, no_unit, plain, unit}
use Rattle.tok_lexical.specs.Widths.{bytes}
use Rattle.tok_lexical.specs.declared.contents.Contents.{Contents}
use Rattle.tok_lexical.specs.declared.contents.Contents.TheVariants.{Text, Bytes, C}
use Rattle.tok_lexical.specs.declared.quoted.QuotedFault.{QuotedFault}
use Rattle.tok_lexical.proofs.EscapedChars.{all_stop, free_byte, free_escaped, free_one}
use Rattle.tok_lexical.proofs.Digits.{all_stops}
use Rattle.tok_lexical.proofs.Longest.{IsFree}
use Rattle.tok_lexical.proofs.RawStrings.{raw_long, raw_open}
use Rattle.tok_lexical.proofs.Units.{no_quote, unit_same}

-- what comes before the rest of a part of a literal
pub cut_further : (literal before text inner rest : List ℕ) → literal ≡ before ++ text →
    text ≡ inner ++ rest → literal ≡ (before ++ inner) ++ rest
cut_further literal before text inner rest e f = cc (append_assoc before inner rest)

-- a character that is no escape
pub finds_char : (text : List ℕ) (answer : Option (Bor (List ℕ))) →
    (HasPrefix IsEscapedChar text → ⊥) → ReadsPrefix (IsOne is_char) text answer →
    ReadsPrefix IsChar text answer
finds_char text None escaped misses = λ (piece, rest, cut, h). elim h [
  | inl p ↦ misses (piece, rest, cut, p)
  | inr q ↦ escaped (piece, rest, cut, q)
]
finds_char text (Some rest) escaped (piece, cut, p) = (piece, cut, inl p)

begun : (k : ℕ) (text : List ℕ) → begins_with k text ≡ true → (rest : List ℕ) × (text ≡ k ∷ rest)
begun k text e = grind arith

is_closed : (b : Bool) (found : QuotedFault × ℕ) → (if b then None else Some found) ≡ None →
    b ≡ true
is_closed b found e = grind arith

-- of strings of one kind
module _ (kind : Contents) where
  -- the inside of a string stops at one place
  stops_once : {f g : List ℕ} → AreUnits kind f → AreUnits kind g → (r s : List ℕ) →
      f ++ r ≡ g ++ s → (HasPrefix (IsUnit kind) r → ⊥) → (HasPrefix (IsUnit kind) s → ⊥) →
      (f ≡ g) × (r ≡ s)
  stops_once no_unit no_unit r s e m n = (refl, e)
  stops_once no_unit (unit {first = c} {rest = d} v vs) r s e m n =
      absurd (m (c, d ++ s, cc (append_assoc c d s), v))
  stops_once (unit {first = a} {rest = b} u us) no_unit r s e m n =
      absurd (n (a, b ++ r, cc (append_assoc a b r), u))
  stops_once (unit {first = a} {rest = b} u us) (unit {first = c} {rest = d} v vs) r s e m n =
      let same = unit_same kind u v (b ++ r) (d ++ s)
      (cc (append_assoc a b r, append_assoc c d s)) in
      let w = stops_once us vs r s same.1 m n in
      (cc, w.1)

  -- where no unit is and nothing is wrong, the closing quote is
  quote_there : (at : ℕ) (rest : List ℕ) → stop_fault kind at rest ≡ None →
      (HasPrefix (IsUnit kind) rest → ⊥) → (more : List ℕ) × (rest ≡ 34 ∷ more)
  quote_there at [] e m = absurd (cc)
  quote_there at (c ∷ rest) e m = elim (eqb_tells c 34) [
    | inl h ↦ (rest, ap (λ w. w ∷ rest) h.1)
    | inr h ↦ absurd (m (c ∷ [], rest, refl, plain c h.1 (λ q. absurd (grind arith))))
  ]

  pub string_once : (before text : List ℕ) (a b : Option (QuotedFault × ℕ)) →
      IsStringFault kind before text a → IsStringFault kind before text b → a ≡ b
  string_once before text a b (f, r, s, e) (g, l, t, k) =
      let w = stops_once s.units t.units r l (cc (s.cut, t.cut)) s.stops t.stops in cc

  pub string_tells : (before text : List ℕ) (found : Option (QuotedFault × ℕ)) →
      IsStringFault kind before text found →
      (found ≡ None) ↔ HasPrefix (IsString kind) (34 ∷ text)
  string_tells before text found (front, rest, s, e) = (
    λ none.
        let q = quote_there (bytes (before ++ front)) rest (sym e ∙ none) s.stops in (
          34 ∷ (front ++ 34 ∷ []),
          q.0,
          cc (s.cut, append_assoc front (34 ∷ []) q.0),
          (front, [], refl, s.units, inl refl),
        ),
    λ (piece, last, cut, (body, suffix, g, us, k)).
        let w = stops_once s.units us rest (34 ∷ (suffix ++ last))
        (cc (s.cut, append_assoc body (34 ∷ suffix) last)) s.stops
        (λ (piece, after, f, u). no_quote kind u after (suffix ++ last) (sym f)) in
        e ∙ ap (λ x. stop_fault kind (bytes (before ++ front)) x) w.1,
  )

-- of characters whose inside is spelled so
module _ (Inner : List ℕ → Type 0) (free : IsFree Inner) (kind : Contents) where
  pub char_once : (before text : List ℕ) (a b : Option (QuotedFault × ℕ)) →
      IsCharFault Inner kind before text a → IsCharFault Inner kind before text b → a ≡ b
  char_once before text a b (inl (i, r, c, h, e)) (inl (j, s, d, k, f)) =
      let w = free i j h k r s (sym c ∙ d) in cc
  char_once before text a b (inl (i, r, c, h, e)) (inr (none, f)) = absurd (none (i, r, c, h))
  char_once before text a b (inr (none, e)) (inl (j, s, d, k, f)) = absurd (none (j, s, d, k))
  char_once before text a b (inr (none, e)) (inr (never, f)) = e ∙ sym f

  -- what such a literal is after its first apostrophe
  inside_quotes : (text : List ℕ) → HasPrefix (IsQuoted Inner) (39 ∷ text) →
      (inner rest : List ℕ) × (text ≡ inner ++ 39 ∷ rest) × Inner inner
  inside_quotes text (piece, last, cut, (inner, suffix, g, k, s)) =
      (inner, suffix ++ last, cc (append_assoc inner (39 ∷ suffix) last), k)

  pub char_tells : (before text : List ℕ) (found : Option (QuotedFault × ℕ)) →
      IsCharFault Inner kind before text found →
      (found ≡ None) ↔ HasPrefix (IsQuoted Inner) (39 ∷ text)
  char_tells before text found (inl (inner, rest, cut, h, e)) = (
    λ none.
        let q = begun 39 rest (is_closed (begins_with 39 rest) _ (sym e ∙ none)) in (
          39 ∷ (inner ++ 39 ∷ []),
          q.0,
          cc (append_assoc inner (39 ∷ []) q.0),
          (inner, [], refl, h, inl refl),
        ),
    λ some.
        let (within, after, same, k) = inside_quotes text some in
        let w = free inner within h k rest (39 ∷ after) (sym cut ∙ same) in
        e ∙ ap (λ x. unless_closed (bytes (before ++ inner)) x) w.1,
  )
  char_tells before text found (inr (none, e)) = (
    λ nothing. absurd (none-some _ (sym nothing ∙ e)),
    λ some. let (inner, after, same, k) = inside_quotes text some in
        absurd (none (inner, 39 ∷ after, same, k)),
  )

-- an escape begins with a backslash, and a character is none
pub free_char : IsFree IsChar
free_char a b (inl s) (inl t) x y g = free_one is_char a b s t x y g
free_char a b (inl (c, h, e)) (inr (more, f, t)) x y g = let k : c ≡ 92 = cc in grind arith
free_char a b (inr (more, f, t)) (inl (c, h, e)) x y g = let k : c ≡ 92 = cc in grind arith
free_char a b (inr s) (inr t) x y g = free_escaped a b s t x y g

-- a text begins with the opening quote of one kind of string
same_opening : (a b : Contents) (x y : List ℕ) → opening_quote a ++ x ≡ opening_quote b ++ y →
    (a ≡ b) × (x ≡ y)
same_opening a b x y e = grind arith

-- no string begins as a character does
no_character : (kind : Contents) (x y : List ℕ) → opening_quote kind ++ x ≡ 39 ∷ y → ⊥
no_character kind x y e = grind arith

-- no string begins as a byte character does
no_byte : (kind : Contents) (x y : List ℕ) → opening_quote kind ++ x ≡ 98 ∷ 39 ∷ y → ⊥
no_byte kind x y e = grind arith

-- a text begins with the letters of one kind of raw string
same_letters : (a b : Contents) (x y : List ℕ) → raw_letters a ++ x ≡ raw_letters b ++ y →
    (a ≡ b) × (x ≡ y)
same_letters a b x y e = grind arith

-- no raw string begins as a string does
no_string : (kind quoted : Contents) (x y : List ℕ) → raw_letters kind ++ x
    ≡ opening_quote quoted ++ y → ⊥
no_string kind quoted x y e = grind arith

-- nor as a character does
raw_no_character : (kind : Contents) (x y : List ℕ) → raw_letters kind ++ x ≡ 39 ∷ y → ⊥
raw_no_character kind x y e = grind arith

-- nor as a byte character does
raw_no_byte : (kind : Contents) (x y : List ℕ) → raw_letters kind ++ x ≡ 98 ∷ 39 ∷ y → ⊥
raw_no_byte kind x y e = grind arith

-- a text without a quote after the letters and the # opens no raw string
pub opens_by_quote : (text signs front mid : List ℕ) (kind : Contents) →
    text ≡ raw_letters kind ++ signs → Skips (λ c. c == 35) signs front mid →
    ((more : List ℕ) → mid ≡ 34 ∷ more → ⊥) →
    (wanted : Contents) (hashes rest : List ℕ) → OpensRaw wanted text hashes rest → ⊥
opens_by_quote text signs front mid kind e s none wanted hashes rest o =
    let w = same_letters kind wanted _ _ (sym e ∙ o.cut) in
    none rest (all_stops (λ c. c == 35) front hashes mid (34 ∷ rest) s.pass o.signs s.stops refl
    (sym s.cut ∙ w.1)).1

-- a raw string of a kind, with its letters and without them
without_letters : (kind : Contents) (rest : List ℕ) →
    HasPrefix (IsRawString kind) (raw_letters kind ++ rest) → HasPrefix IsRaw rest
without_letters Text rest (piece, after, cut, (more, e, r)) = (more, after, cc, r)
without_letters Bytes rest (piece, after, cut, (prefixed, e, (more, f, r))) = (more, after, cc, r)
without_letters C rest (piece, after, cut, (prefixed, e, (more, f, r))) = (more, after, cc, r)

with_letters : (kind : Contents) (rest : List ℕ) → HasPrefix IsRaw rest →
    HasPrefix (IsRawString kind) (raw_letters kind ++ rest)
with_letters Text rest (piece, after, cut, r) = (114 ∷ piece, after, cc, (piece, refl, r))
with_letters Bytes rest (piece, after, cut, r) =
    (98 ∷ 114 ∷ piece, after, cc, (114 ∷ piece, refl, (piece, refl, r)))
with_letters C rest (piece, after, cut, r) =
    (99 ∷ 114 ∷ piece, after, cc, (114 ∷ piece, refl, (piece, refl, r)))

pub raw_once : (hashes text : List ℕ) (a b : Option (QuotedFault × ℕ)) →
    IsRawFault hashes text a → IsRawFault hashes text b → a ≡ b
raw_once hashes text a b (too_many l) (too_many m) = refl
raw_once hashes text a b (too_many l) (unclosed m none) = absurd (omega arith)
raw_once hashes text a b (too_many l) (whole m some) = absurd (omega arith)
raw_once hashes text a b (unclosed l none) (too_many m) = absurd (omega arith)
raw_once hashes text a b (unclosed l none) (unclosed m never) = refl
raw_once hashes text a b (unclosed l none) (whole m some) = absurd (none some)
raw_once hashes text a b (whole l some) (too_many m) = absurd (omega arith)
raw_once hashes text a b (whole l some) (unclosed m none) = absurd (none some)
raw_once hashes text a b (whole l some) (whole m again) = refl

-- the # of a raw string stop at its opening quote
opening_signs : (kind : Contents) (text hashes rest : List ℕ) → OpensRaw kind text hashes rest →
    Skips (λ c. c == 35) (hashes ++ 34 ∷ rest) hashes (34 ∷ rest)
opening_signs kind text hashes rest o = record { cut = refl; pass = o.signs; stops = refl }

pub raw_tells : (kind : Contents) (text hashes rest : List ℕ) (found : Option (QuotedFault × ℕ)) →
    OpensRaw kind text hashes rest → IsRawFault hashes rest found →
    (found ≡ None) ↔ HasPrefix (IsRawString kind) text
raw_tells kind text hashes rest found o f =
    rw o.cut (elim f as (λ found _.
    (found ≡ None) ↔ HasPrefix (IsRawString kind) (raw_letters kind ++ (hashes ++ 34 ∷ rest))) [
      | too_many l ↦ (
        λ e. absurd (cc),
        λ some. absurd (raw_long _ _ hashes signs l (without_letters kind _ some)),
      )
      | unclosed l none ↦ (
        λ e. absurd (cc),
        λ some. absurd (raw_open _ _ hashes signs rest refl none (without_letters kind _ some)),
      )
      | whole l (body, after, cut, m) ↦ (
        λ e. with_letters kind _ (
          hashes ++ 34 ∷ (body ++ []),
          after,
          cc (append-nil body, append_assoc hashes (34 ∷ body) after),
          (hashes, body, [], refl, o.signs, l, m, inl refl),
        ),
        λ some. refl,
      )
    ])
  where
    signs : Skips (λ c. c == 35) (hashes ++ 34 ∷ rest) hashes (34 ∷ rest)
    signs = opening_signs kind text hashes rest o

-- a text has one fault, or none
module _ (text : List ℕ) (a b : Option (QuotedFault × ℕ)) where
  pub fault_once : IsQuotedFault text a → IsQuotedFault text b → a ≡ b
  fault_once (string k x e s) (string l y f t) =
      let w = same_opening k l x y (sym e ∙ f) in
      string_once k (opening_quote k) x a b s (rw (w.0, w.1) t)
  fault_once (string k x e s) (character y f t) = absurd (no_character k x y (sym e ∙ f))
  fault_once (string k x e s) (byte y f t) = absurd (no_byte k x y (sym e ∙ f))
  fault_once (string k x e s) (raw l h y p t) = absurd (no_string l k _ x (sym p.cut ∙ e))
  fault_once (string k x e s) (other n m o r f) = absurd (n k x e)
  fault_once (character x e s) (string l y f t) = absurd (no_character l y x (sym f ∙ e))
  fault_once (character x e s) (character y f t) =
      let same : x ≡ y = cc in char_once IsChar free_char Text (39 ∷ []) x a b s (rw same t)
  fault_once (character x e s) (byte y f t) = absurd (grind arith)
  fault_once (character x e s) (raw l h y p t) = absurd (raw_no_character l _ x (sym p.cut ∙ e))
  fault_once (character x e s) (other n m o r f) = absurd (m x e)
  fault_once (byte x e s) (string l y f t) = absurd (no_byte l y x (sym f ∙ e))
  fault_once (byte x e s) (character y f t) = absurd (grind arith)
  fault_once (byte x e s) (byte y f t) =
      let same : x ≡ y = cc in
      char_once IsByte free_byte Bytes (98 ∷ 39 ∷ []) x a b s (rw same t)
  fault_once (byte x e s) (raw l h y p t) = absurd (raw_no_byte l _ x (sym p.cut ∙ e))
  fault_once (byte x e s) (other n m o r f) = absurd (o x e)
  fault_once (raw k h x o s) (string l y f t) = absurd (no_string k l _ y (sym o.cut ∙ f))
  fault_once (raw k h x o s) (character y f t) = absurd (raw_no_character k _ y (sym o.cut ∙ f))
  fault_once (raw k h x o s) (byte y f t) = absurd (raw_no_byte k _ y (sym o.cut ∙ f))
  fault_once (raw k h x o s) (raw l g y p t) =
      let w = same_letters k l _ _ (sym o.cut ∙ p.cut) in
      let v = all_stop (λ c. c == 35) 34 h g x y refl o.signs p.signs w.1 in
      raw_once h x a b s (rw (v.0, v.1) t)
  fault_once (raw k h x o s) (other n m p r f) = absurd (r k h x o)
  fault_once (other n m o r e) (string l y f t) = absurd (n l y f)
  fault_once (other n m o r e) (character y f t) = absurd (m y f)
  fault_once (other n m o r e) (byte y f t) = absurd (o y f)
  fault_once (other n m o r e) (raw l h y p t) = absurd (r l h y p)
  fault_once (other n m o r e) (other p q u v f) = e ∙ sym f
