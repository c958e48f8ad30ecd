-- Raw strings: the search for the quote that ends one.
use Rattle.std.proofs.Common.{◌≡◌, ◌∙◌, ℕ, zero, suc, get_or, ◌≤◌, ◌<◌, inl, inr, List, [], ◌∷◌}
use Rattle.std.proofs.Common.{◌++◌, length, refl, sym, ap, arith, append_assoc, length-append, true}
use Rattle.std.proofs.lemmas.List.{append_cancel_left}
use Rattle.std.proofs.lemmas.Bool.{eqb-true}
use Rattle.std.specs.Prelude.{◌==◌}
use Rattle.std.specs.Str.{chars, IsUtf8}
use Rattle.std.proofs.lemmas.Str.{encodes-chars, encodes-IsAscii}
use Rattle.std.proofs.lemmas.Str.Ascii.{IsAscii-nil}
use Rattle.std.specs.List.{list_all}
use Rattle.tok_lexical.specs.Pieces.{HasPrefix, IsLongestPrefix, Skips, Stops, is_neither}
use Rattle.tok_lexical.specs.Raw.{EndsAt, closed, further, IsRaw, most_signs}
use Rattle.tok_lexical.specs.Words.{IsSuffix}
use Rattle.tok_lexical.proofs.Leads.{Leads, leads_run, leads_then}
use Rattle.tok_lexical.proofs.NestedComments.{neither_of}
use Rattle.tok_lexical.proofs.Longest.{front_nil, IsFree, fronts}
use Rattle.tok_lexical.proofs.EscapedChars.{all_stop}
use Rattle.tok_lexical.proofs.Digits.{all_stops, head_passes, tail_passes}

ends_length : {closing text : List ℕ} → EndsAt closing text → length closing ≤ length text
ends_length closed = omega arith
ends_length (further misses m) = let l = ends_length m in omega arith

ends_some : (hashes tail : List ℕ) → tail ≡ [] → EndsAt (34 ∷ hashes) tail → ⊥
ends_some hashes tail e closed = cc
ends_some hashes tail e (further misses m) = cc

-- of a text with the closing in front, no longer front ends so
closed_first : (closing : List ℕ) (c : ℕ) (text x y : List ℕ) →
    ((more : List ℕ) → c ∷ text ≡ closing ++ more → ⊥) → EndsAt closing text → closing ++ x
    ≡ (c ∷ text) ++ y → ⊥
closed_first closing c text x y misses m e =
    elim (fronts closing (c ∷ text) x y e) [
      | inl (more, a, b) ↦ misses more a
      | inr (more, a, b) ↦
          let l = ends_length m in
          absurd (omega (arith, ap length a, length-append (c ∷ text) more))
    ]

pub free_ends : (closing : List ℕ) → IsFree (EndsAt closing)
free_ends closing a b s t x y e = go s t x y e
  where
    go : {a b : List ℕ} → EndsAt closing a → EndsAt closing b → (x y : List ℕ) →
        a ++ x ≡ b ++ y → (a ≡ b) × (x ≡ y)
    go closed closed x y e = (refl, append_cancel_left closing x y e)
    go closed (further {c = c} {text = text} misses m) x y e =
        absurd (closed_first closing c text x y misses m e)
    go (further {c = c} {text = text} misses m) closed x y e =
        absurd (closed_first closing c text y x misses m (sym e))
    go (further {c = c} {text = text} misses m) (further {c = d} {text = other} others n) x y e =
        let w = go m n x y (cc) in (cc, w.1)

-- no closing begins in this front of the start, before the rest
abbrev pub Stands : (closing start rest front : List ℕ) → Type 0
Stands closing = Leads (EndsAt closing) (EndsAt closing)

one_less : (closing inner more after : List ℕ) (c : ℕ) → c ∷ inner ≡ more ++ after →
    ((m : List ℕ) → c ∷ inner ≡ closing ++ m → ⊥) → EndsAt closing more → (less : List ℕ)
    × (more ≡ c ∷ less) × (inner ≡ less ++ after) × EndsAt closing less
one_less closing inner more after c e misses closed = absurd (misses after e)
one_less closing inner more after c e misses (further {text = text} n m) = (text, cc, cc, m)

-- past a character where the closing doesn't begin
passes_one : (closing inner : List ℕ) (c : ℕ) → ((m : List ℕ) → c ∷ inner ≡ closing ++ m → ⊥) →
    Stands closing (c ∷ inner) inner (c ∷ [])
passes_one closing inner c misses = record {
  cut = refl;
  back = λ tail after f m.
      further (λ more g. misses (more ++ after) (cc (append_assoc closing more after))) m;
  forth = λ tail after f m. one_less closing inner tail after c f misses m;
}

-- past a run with no quote
pub stands_run : (hashes start rest inner front run : List ℕ) →
    Stands (34 ∷ hashes) start rest front → Skips (is_neither 34 34) rest run inner →
    Stands (34 ∷ hashes) start inner (front ++ run)
stands_run hashes start rest inner front run s t =
    let passed : Stands (34 ∷ hashes) rest inner run = rw t.cut
    (leads_run (EndsAt (34 ∷ hashes)) (is_neither 34 34)
    (λ c more h. passes_one (34 ∷ hashes) more c (λ m g. (neither_of 34 34 c h).0 (cc))) run inner
    t.pass) in
    leads_then s passed

-- past a quote that the number signs don't follow
pub stands_quote : (hashes start rest inner front : List ℕ) →
    Stands (34 ∷ hashes) start rest front → rest ≡ 34 ∷ inner →
    ((m : List ℕ) → inner ≡ hashes ++ m → ⊥) → Stands (34 ∷ hashes) start inner
    (front ++ 34 ∷ [])
stands_quote hashes start rest inner front s e misses =
    let passed : Stands (34 ∷ hashes) rest inner (34 ∷ []) =
    rw e (passes_one (34 ∷ hashes) inner 34 (λ m g. misses m (cc))) in
    leads_then s passed

pub stands_found : (hashes start rest inner end front : List ℕ) →
    Stands (34 ∷ hashes) start rest front → rest ≡ 34 ∷ inner → inner ≡ hashes ++ end →
    (piece : List ℕ) × (start ≡ piece ++ end) × EndsAt (34 ∷ hashes) piece
stands_found hashes start rest inner end front s e f =
    let here : rest ≡ (34 ∷ hashes) ++ end = cc in (
      front ++ 34 ∷ hashes,
      cc (s.cut, append_assoc front (34 ∷ hashes) end),
      s.back (34 ∷ hashes) end here closed,
    )

stops_nil : (text : List ℕ) → Stops (is_neither 34 34) text →
    ((more : List ℕ) → text ≡ 34 ∷ more → ⊥) → text ≡ []
stops_nil [] s a = refl
stops_nil (c ∷ text) s a = let none = a text in grind arith

-- where no quote is left, the string ends nowhere
pub stands_none : (hashes start rest front : List ℕ) → Stands (34 ∷ hashes) start rest front →
    Stops (is_neither 34 34) rest → ((more : List ℕ) → rest ≡ 34 ∷ more → ⊥) →
    HasPrefix (EndsAt (34 ∷ hashes)) start → ⊥
stands_none hashes start rest front s stop none (piece, after, cut, m) =
    let a = s.forth piece after cut m in
    ends_some hashes a.0 (front_nil a.0 after (sym (stops_nil rest stop none) ∙ a.2)) a.3

-- the parts of a raw string whose number signs are known
raw_parts : (text mid hashes piece after : List ℕ) → Skips (λ c. c == 35) text hashes mid →
    text ≡ piece ++ after → IsRaw piece → (body : List ℕ) × (suffix : List ℕ)
    × (mid ≡ 34 ∷ (body ++ (suffix ++ after))) × (length hashes ≤ most_signs)
    × EndsAt (34 ∷ hashes) body × IsSuffix suffix × (piece ≡ hashes ++ 34 ∷ (body ++ suffix))
raw_parts text mid hashes piece after s cut (hs, body, suffix, e, a, l, m, k) =
    let w = all_stops (λ c. c == 35) hashes hs mid (34 ∷ ((body ++ suffix) ++ after)) s.pass a
    s.stops refl (cc (s.cut, append_assoc hs (34 ∷ (body ++ suffix)) after)) in (
      body,
      suffix,
      cc (w.1, append_assoc body suffix after),
      rw w.0 l,
      rw w.0 m,
      k,
      rw w.0 e,
    )

module _ (text mid hashes : List ℕ) (s : Skips (λ c. c == 35) text hashes mid) where
  pub raw_long : most_signs < length hashes → HasPrefix IsRaw text → ⊥
  raw_long l (piece, after, cut, r) = let p = raw_parts text mid hashes piece after s cut r in
      let few = p.3 in absurd (omega arith)

  pub raw_unquoted : ((more : List ℕ) → mid ≡ 34 ∷ more → ⊥) → HasPrefix IsRaw text → ⊥
  raw_unquoted none (piece, after, cut, r) =
      let p = raw_parts text mid hashes piece after s cut r in none _ p.2

  pub raw_open : (start : List ℕ) → mid ≡ 34 ∷ start →
      (HasPrefix (EndsAt (34 ∷ hashes)) start → ⊥) → HasPrefix IsRaw text → ⊥
  raw_open start q misses (piece, after, cut, r) =
      let p = raw_parts text mid hashes piece after s cut r in
      misses (p.0, p.1 ++ after, cc (p.2), p.4)

  pub takes_raw : (start end last body suffix : List ℕ) → length hashes ≤ most_signs →
      mid ≡ 34 ∷ start → start ≡ body ++ end → EndsAt (34 ∷ hashes) body →
      IsLongestPrefix IsSuffix end suffix last → (piece : List ℕ)
      × IsLongestPrefix IsRaw text piece last
  takes_raw start end last body suffix l q f m t = (
    hashes ++ 34 ∷ (body ++ suffix),
    record {
      cut = cc (
        s.cut,
        t.cut,
        append_assoc body suffix last,
        append_assoc hashes (34 ∷ (body ++ suffix)) last,
      );
      spelled = (hashes, body, suffix, refl, s.pass, l, m, t.spelled);
      longest = λ more after g (hs, other, tail, e, a, l', m', k).
          let w = all_stop (λ c. c == 35) 34 hashes hs ((body ++ suffix) ++ more) (other ++ tail)
          refl s.pass a (sym (append_assoc hashes (34 ∷ (body ++ suffix)) more) ∙ e) in
          let v = free_ends (34 ∷ hashes) body other m (rw w.0 m') (suffix ++ more) tail
          (sym (append_assoc body suffix more) ∙ w.1) in
          t.longest more after g (rw v.1 k);
    },
  )

-- a text and a front that have begun alike
module _ (text rest front left more begun : List ℕ) (w : ℕ) (a : text ≡ begun ++ rest)
    (b : front ≡ begun ++ left) (l : left ≡ w ∷ more) where
  left_over : (m : List ℕ) → text ≡ front ++ m → rest ≡ w ∷ (more ++ m)
  left_over m e = append_cancel_left begun rest (w ∷ (more ++ m))
      (cc (append_assoc begun (w ∷ more) m))

  pub same_short : rest ≡ [] → (m : List ℕ) → text ≡ front ++ m → ⊥
  same_short r m e = let f : [] ≡ w ∷ (more ++ m) = sym r ∙ left_over m e in cc

  pub same_apart : (c : ℕ) (after : List ℕ) → rest ≡ c ∷ after → (c ≡ w → ⊥) → (m : List ℕ) →
      text ≡ front ++ m → ⊥
  same_apart c after r n m e = n (cc (left_over m e))

  pub same_more : (c : ℕ) (after : List ℕ) → rest ≡ c ∷ after → c ≡ w → (longer : List ℕ)
      × (text ≡ longer ++ after) × (front ≡ longer ++ more)
  same_more c after r k = (
    begun ++ c ∷ [],
    cc (append_assoc begun (c ∷ []) after),
    cc (append_assoc begun (c ∷ []) more),
  )

-- the number signs that a function passed, as a text of their own
pub signs : (text mid bytes : List ℕ) → (front : List ℕ) × Skips (λ c. c == 35) text front mid →
    ((front : List ℕ) → text ≡ front ++ mid → chars bytes ≡ front) →
    Skips (λ c. c == 35) text (chars bytes) mid
signs text mid bytes (front, s) is = rw (is front s.cut) s

sign_at : (cs : List ℕ) (i : ℕ) → list_all (λ c. c == 35) cs ≡ true → get_or cs i 0 < 128
sign_at [] i h = IsAscii-nil i
sign_at (x ∷ cs) zero h = let e : x ≡ 35 = eqb-true x 35 (head_passes (λ c. c == 35) x cs h) in
    omega arith
sign_at (x ∷ cs) (suc i) h = sign_at cs i (tail_passes (λ c. c == 35) x cs h)

-- each takes one byte
pub signs_length : (bytes : List ℕ) → IsUtf8 bytes → list_all (λ c. c == 35) (chars bytes)
    ≡ true → length bytes ≡ length (chars bytes)
signs_length bytes u h =
    ap length (sym (encodes-chars bytes u)
    ∙ encodes-IsAscii (chars bytes) (λ i. sign_at (chars bytes) i h))
