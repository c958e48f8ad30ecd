-- Strings: units, quotes and suffixes.
use Rattle.std.proofs.Common.{◌≡◌, ◌∙◌, ℕ, inl, inr, List, [], ◌∷◌, ◌++◌, length, length-append}
use Rattle.std.proofs.Common.{refl, sym, ap, arith, append_assoc, true}
use Rattle.std.specs.Prelude.{◌≢◌, Option, Some, None, unwrap_or}
use Rattle.std.specs.Borrow.{Bor}
use Rattle.std.specs.Str.{chars}
use Rattle.std.proofs.lemmas.List.{append-nil, append_cancel_left, nil_from_length}
use Rattle.std.specs.List.{list_all}
use Rattle.tok_lexical.specs.Private.Finds.{FindsUnits, ReadsPrefix}
use Rattle.tok_lexical.specs.Pieces.{IsLongestPrefix, ReadsLongest, HasPrefix, After, Skips}
use Rattle.tok_lexical.specs.Pieces.{is_neither}
use Rattle.tok_lexical.proofs.NestedComments.{neither_first}
use Rattle.tok_lexical.specs.Words.{IsIdentifier, IsSuffix}
use Rattle.tok_lexical.specs.Strings.{EscapeOf, IsUnit, plain, escape, AreUnits, no_unit, unit}
use Rattle.tok_lexical.specs.Strings.{IsString, IsQuoted}
use Rattle.tok_lexical.specs.declared.contents.Contents.{Contents}
use Rattle.tok_lexical.proofs.Longest.{IsFree}
use Rattle.tok_lexical.proofs.EscapedChars.{heads, free_string_escape}

-- of strings of one kind
module _ (kind : Contents) where
  -- no unit begins another
  pub unit_same : {a b : List ℕ} → IsUnit kind a → IsUnit kind b → (x y : List ℕ) →
      a ++ x ≡ b ++ y → (a ≡ b) × (x ≡ y)
  unit_same (plain c p q) (plain d r s) x y e = (cc, cc)
  unit_same (plain c p q) (escape v) x y e = absurd (q (cc))
  unit_same (escape v) (plain c p q) x y e = absurd (q (cc))
  unit_same (escape {text = a} v) (escape {text = b} w) x y e =
      let s = free_string_escape kind a b v w x y (cc) in (cc, s.1)

  pub no_quote : {a : List ℕ} → IsUnit kind a → (x y : List ℕ) → a ++ x ≡ 34 ∷ y → ⊥
  no_quote (plain c p q) x y e = p (cc)
  no_quote (escape v) x y e = absurd (omega (arith, heads 92 34 _ _ e))

  units_append : {a b : List ℕ} → AreUnits kind a → AreUnits kind b → AreUnits kind (a ++ b)
  units_append no_unit v = v
  units_append {b = b} (unit {first = f} {rest = r} u us) v =
      rw (append_assoc f r b) (unit u (units_append us v))

  -- a front of units reaches the rest, and units up to a quote go through it
  pub record Reaches (start rest front : List ℕ) : Type 0 where
    pub cut : start ≡ front ++ rest
    pub units : AreUnits kind front
    pub forth : (tail after : List ℕ) → start ≡ tail ++ 34 ∷ after → AreUnits kind tail →
        (more : List ℕ) × (tail ≡ front ++ more) × (rest ≡ more ++ 34 ∷ after)
        × AreUnits kind more

  pub reaches_first : (start : List ℕ) → Reaches start start []
  reaches_first start =
      record { cut = refl; units = no_unit; forth = λ tail after e u. (tail, refl, e, u) }

  one_less : (taken inner after : List ℕ) (more : List ℕ) → IsUnit kind taken → taken ++ inner
      ≡ more ++ 34 ∷ after → AreUnits kind more → (less : List ℕ) × (more ≡ taken ++ less)
      × (inner ≡ less ++ 34 ∷ after) × AreUnits kind less
  one_less taken inner after more u e no_unit = absurd (no_quote u inner after e)
  one_less taken inner after more u e (unit {first = f} {rest = r} v us) =
      let same = unit_same u v inner (r ++ 34 ∷ after) (cc (append_assoc f r (34 ∷ after))) in
      (r, cc, same.1, us)

  reaches_more : (start rest inner front taken : List ℕ) → Reaches start rest front →
      IsUnit kind taken → rest ≡ taken ++ inner → Reaches start inner (front ++ taken)
  reaches_more start rest inner front taken s u e = record {
    cut = cc (s.cut, append_assoc front taken inner);
    units = units_append s.units (rw append-nil at (unit u no_unit));
    forth = λ tail after f v.
        let a = s.forth tail after f v in
        let b = one_less taken inner after a.0 u (sym e ∙ a.2) a.3 in
        (b.0, cc (a.1, b.1, append_assoc front taken b.0), b.2, b.3);
  }

  pub reaches_units : (start rest inner front taken : List ℕ) → Reaches start rest front →
      AreUnits kind taken → rest ≡ taken ++ inner → Reaches start inner (front ++ taken)
  reaches_units start rest inner front taken s no_unit e =
      rw (append-nil front, ← e) s
  reaches_units start rest inner front taken s (unit {first = f} {rest = r} u us) e =
      rw (← (append_assoc front f r))
      (reaches_units start (r ++ inner) inner (front ++ f) r
      (reaches_more start rest (r ++ inner) front f s u (cc (append_assoc f r inner))) us refl)

  -- where no unit fits, the units are over
  over : (rest more after : List ℕ) → (HasPrefix (IsUnit kind) rest → ⊥) → rest ≡ more ++ 34
      ∷ after → AreUnits kind more → (more ≡ []) × (rest ≡ 34 ∷ after)
  over rest more after misses e no_unit = (refl, e)
  over rest more after misses e (unit {first = f} {rest = r} v us) =
      absurd (misses (f, r ++ 34 ∷ after, cc (append_assoc f r (34 ∷ after)), v))

  pub takes_string : (text start rest end after front suffix : List ℕ) → text ≡ 34 ∷ start →
      Reaches start rest front → (HasPrefix (IsUnit kind) rest → ⊥) → rest ≡ 34 ∷ end →
      IsLongestPrefix IsSuffix end suffix after → IsLongestPrefix (IsString kind) text
      (34 ∷ (front ++ 34 ∷ suffix)) after
  takes_string text start rest end after front suffix e s misses q t = record {
    cut = cc (s.cut, t.cut, append_assoc front (34 ∷ suffix) after);
    spelled = (front, suffix, refl, s.units, t.spelled);
    longest = λ more last f (body, tail, g, us, k).
        let inside : (front ++ 34 ∷ suffix) ++ more ≡ body ++ 34 ∷ tail = cc in
        let whole : start ≡ body ++ 34 ∷ (tail ++ last) =
        cc (
          s.cut,
          t.cut,
          append_assoc front (34 ∷ suffix) (more ++ last),
          append_assoc (front ++ 34 ∷ suffix) more last,
          append_assoc body (34 ∷ tail) last,
        ) in
        let a = s.forth body (tail ++ last) whole us in
        let b = over rest a.0 (tail ++ last) misses a.2 a.3 in
        let rests : 34 ∷ (suffix ++ more) ≡ 34 ∷ tail =
        append_cancel_left front (34 ∷ (suffix ++ more)) (34 ∷ tail)
        (cc (a.1, b.0, append-nil front, append_assoc front (34 ∷ suffix) more)) in
        let tails : tail ≡ suffix ++ more = cc in
        t.longest more last f (rw tails at k);
  }

  pub open_string : (text start rest front : List ℕ) → text ≡ 34 ∷ start →
      Reaches start rest front → (HasPrefix (IsUnit kind) rest → ⊥) →
      ((end : List ℕ) → rest ≡ 34 ∷ end → ⊥) → HasPrefix (IsString kind) text → ⊥
  open_string text start rest front e s misses opened (piece, last, cut, (body, tail, g, us, k)) =
      let a = s.forth body (tail ++ last) (cc (append_assoc body (34 ∷ tail) last)) us in
      let b = over rest a.0 (tail ++ last) misses a.2 a.3 in
      opened (tail ++ last) b.1

takes_none : (text : List ℕ) → (HasPrefix IsIdentifier text → ⊥) →
    IsLongestPrefix IsSuffix text [] text
takes_none text misses = record {
  cut = refl;
  spelled = inl refl;
  longest = λ more after e s. elim s
      [ inl nothing ↦ nothing | inr w ↦ absurd (misses (more, after, e, w)) ];
}

-- past an identifier as a suffix, or past nothing
pub takes_suffix : (text : Bor (List ℕ)) (found : Option (Bor (List ℕ))) →
    ReadsLongest IsIdentifier (chars text.now) found → (suffix : List ℕ)
    × IsLongestPrefix IsSuffix (chars text.now) suffix (chars (unwrap_or found text).now)
takes_suffix text None misses = ([], takes_none (chars text.now) misses)
takes_suffix text (Some rest) (word, taken) = (
  word,
  record {
    cut = taken.cut;
    spelled = inr taken.spelled;
    longest = λ more after e s. elim s [
      | inl nothing ↦
          nil_from_length more (omega (arith, ap length nothing, length-append word more))
      | inr w ↦
          taken.longest more after e w
    ];
  },
)

module _ (kind : Contents) where
  plain_units : (run : List ℕ) → list_all (is_neither 34 92) run ≡ true → AreUnits kind run
  plain_units [] h = no_unit
  plain_units (c ∷ run) h = let n = neither_first 34 92 c run h in
      unit (plain c n.0 n.1) (plain_units run n.2)

  pub finds_plain : (text rest after : List ℕ) (c : ℕ) → text ≡ c ∷ rest → c ≢ 34 →
      ((more : List ℕ) → text ≡ 92 ∷ more → ⊥) → (front : List ℕ)
      × Skips (is_neither 34 92) rest front after → (piece : List ℕ) × (text ≡ piece ++ after)
      × AreUnits kind piece
  finds_plain text rest after c one q b (front, s) = (
    c ∷ front,
    cc (s.cut),
    unit (plain c q (λ k. b rest (cc))) (plain_units front s.pass),
  )

  none_unit : (rest piece after : List ℕ) → (HasPrefix (EscapeOf kind) rest → ⊥) →
      IsUnit kind piece → 92 ∷ rest ≡ piece ++ after → ⊥
  none_unit rest piece after misses (plain c p q) f = q (cc)
  none_unit rest piece after misses (escape {text = t} v) f = misses (t, after, cc, v)

  pub tries_units : (text rest : List ℕ) (answer : Option (Bor (List ℕ))) → text ≡ 92 ∷ rest →
      ReadsPrefix (EscapeOf kind) rest answer → FindsUnits kind text answer
  tries_units text rest None e misses = λ (piece, after, cut, v). none_unit rest piece after
      misses v (sym e ∙ cut)
  tries_units text rest (Some after) e (piece, cut, v) =
      (92 ∷ piece, cc, rw append-nil at (unit (escape v) no_unit))

-- an apostrophe, what stands within, and what is tried after it
pub tries_quoted : (Inner : List ℕ → Type 0) (text start rest inner : List ℕ)
    (answer : Option (Bor (List ℕ))) → IsFree Inner → text ≡ 39 ∷ start → start ≡ inner ++ rest →
    Inner inner → ReadsLongest (After 39 IsSuffix) rest answer →
    ReadsLongest (IsQuoted Inner) text answer
tries_quoted Inner text start rest inner None free one two h misses =
    λ (piece, after, cut, (other, suffix, e, k, s)).
    let w = free inner other h k rest (39 ∷ suffix ++ after)
    (cc (append_assoc other (39 ∷ suffix) after)) in
    misses (39 ∷ suffix, after, w.1, (suffix, refl, s))
tries_quoted Inner text start rest inner (Some last) free one two h (piece, t) =
    let (suffix, e, s) = t.spelled in (
      39 ∷ (inner ++ piece),
      record {
        cut = cc (t.cut, append_assoc inner piece (chars last.now));
        spelled = (inner, suffix, ap (λ w. 39 ∷ (inner ++ w)) e, h, s);
        longest = λ more after f (other, suffix', g, k, s').
            let w = free inner other h k (piece ++ more) (39 ∷ suffix')
            (cc (append_assoc inner piece more)) in
            t.longest more after f (suffix', w.1, s');
      },
    )

-- a character, and a suffix after it
pub takes_after : (k : ℕ) (S : List ℕ → Type 0) (text rest last suffix : List ℕ) →
    text ≡ k ∷ rest → IsLongestPrefix S rest suffix last → (piece : List ℕ)
    × IsLongestPrefix (After k S) text piece last
takes_after k S text rest last suffix e t = (
  k ∷ suffix,
  record {
    cut = cc (t.cut);
    spelled = (suffix, refl, t.spelled);
    longest = λ more after f (q, g, s). let same : suffix ++ more ≡ q = cc in
        t.longest more after f (rw same s);
  },
)
