-- Digits and suffixes.
use Rattle.std.proofs.Common.{◌≡◌, ◌∙◌, ℕ, inl, inr, List, [], ◌∷◌, ◌++◌, refl, sym, ap}
use Rattle.std.proofs.Common.{append_assoc, true, false, Bool, arith, ◌<◌, ◌≤◌}
use Rattle.tok_lexical.specs.Scans.{IsAsciiTest}
use Rattle.tok_lexical.proofs.Runs.{ascii_test}
use Rattle.std.specs.Prelude.{◌==◌, ◌||◌, Option, Some, None, unwrap_or}
use Rattle.std.specs.Str.{chars}
use Rattle.std.specs.List.{list_all}
use Rattle.std.specs.Char.{is_digit}
use Rattle.std.specs.Borrow.{Bor}
use Rattle.std.proofs.Math.Bool.{or-false}
use Rattle.std.proofs.lemmas.List.Folds.{list_any-append}
use Rattle.std.proofs.lemmas.List.{append-nil}
use Rattle.std.proofs.lemmas.Bool.{false≢true, and_parts, or_left}
use Rattle.std.proofs.lemmas.Bool.Decides.{nat_tests}
use Rattle.tok_lexical.specs.Pieces.{IsLongestPrefix, HasPrefix, ReadsLongest, Skips, Stops, After}
use Rattle.tok_lexical.specs.Words.{IsIdentifier}
use Rattle.tok_lexical.specs.declared.numbers.Base.{Base}
use Rattle.tok_lexical.specs.Numbers.{base_mark, radix, IsBased, is_digit_or_underscore}
use Rattle.tok_lexical.specs.Numbers.{starts_digit, starts_number_suffix, IsNumberSuffix, IsRun}
use Rattle.tok_lexical.specs.Numbers.{IsNumber, has_digit}
use Rattle.tok_lexical.proofs.Longest.{no_more, list_all_push, tries_after, fronts}

-- one more digit or underscore
pub digits_more : (n : ℕ) (text mid rest front : List ℕ) (c : ℕ) (found more : Bool) →
    text ≡ front ++ mid → list_all (is_digit_or_underscore n) front ≡ true →
    found ≡ has_digit n front → mid ≡ c ∷ rest → is_digit_or_underscore n c ≡ true →
    more ≡ is_digit c n → (longer : List ℕ) × (text ≡ longer ++ rest)
    × (list_all (is_digit_or_underscore n) longer ≡ true)
    × ((found || more) ≡ has_digit n longer)
digits_more n text mid rest front c found more e a h g p m = (
  front ++ c ∷ [],
  cc (append_assoc front (c ∷ []) rest),
  list_all_push (is_digit_or_underscore n) front c a p,
  rw (h, m, list_any-append, or-false) refl,
)

pub head_passes : (p : ℕ → Bool) (c : ℕ) (xs : List ℕ) → list_all p (c ∷ xs) ≡ true → p c ≡ true
head_passes p c xs a = (and_parts (p c) (list_all p xs) a).0

pub tail_passes : (p : ℕ → Bool) (c : ℕ) (xs : List ℕ) → list_all p (c ∷ xs) ≡ true →
    list_all p xs ≡ true
tail_passes p c xs a = (and_parts (p c) (list_all p xs) a).1

-- what passes, up to what stops
pub all_stops : (p : ℕ → Bool) (xs ys a b : List ℕ) → list_all p xs ≡ true → list_all p ys
    ≡ true → Stops p a → Stops p b → xs ++ a ≡ ys ++ b → (xs ≡ ys) × (a ≡ b)
all_stops p [] [] a b h k s t e = (refl, e)
all_stops p [] (d ∷ ys) [] b h k s t e = cc
all_stops p [] (d ∷ ys) (c ∷ a) b h k s t e = grind arith
all_stops p (c ∷ xs) [] a [] h k s t e = cc
all_stops p (c ∷ xs) [] a (d ∷ b) h k s t e = grind arith
all_stops p (c ∷ xs) (d ∷ ys) a b h k s t e =
    let w = all_stops p xs ys a b (tail_passes p c xs h) (tail_passes p d ys k) s t (cc) in
    (cc, w.1)

stops_front : (p : ℕ → Bool) (xs ys : List ℕ) → Stops p (xs ++ ys) → Stops p xs
stops_front p [] ys s = tt
stops_front p (x ∷ xs) ys s = s

pub suffix_stops : (n : ℕ) (suffix : List ℕ) → IsNumberSuffix n suffix →
    Stops (is_digit_or_underscore n) suffix
suffix_stops n [] s = tt
suffix_stops n (c ∷ suffix) (s, w) = grind arith

-- digits, and what follows them
module _ (n : ℕ) (good : List ℕ → Bool) (Tail : List ℕ → Type 0) where
  pub takes_run : ((tail : List ℕ) → Tail tail → Stops (is_digit_or_underscore n) tail) →
      (text rest last digits tail : List ℕ) → Skips (is_digit_or_underscore n) text digits rest →
      good digits ≡ true → IsLongestPrefix Tail rest tail last → (piece : List ℕ)
      × IsLongestPrefix (IsRun n good Tail) text piece last
  takes_run stops text rest last digits tail s g t = (
    digits ++ tail,
    record {
      cut = cc (s.cut, t.cut, append_assoc digits tail last);
      spelled = (digits, tail, refl, s.pass, g, t.spelled);
      longest = λ more after e (ds, other, f, a, g', k).
          let here : Stops (is_digit_or_underscore n) ((tail ++ more) ++ after) =
          rw (append_assoc tail more after, ← e, ← t.cut) s.stops in
          let w = all_stops (is_digit_or_underscore n) digits ds (tail ++ more) other s.pass a
          (stops_front (is_digit_or_underscore n) (tail ++ more) after here)
          (stops other k) (sym (append_assoc digits tail more) ∙ f) in
          t.longest more after e (rw w.1 k);
    },
  )

  pub none_run : (text rest digits : List ℕ) →
      ((xs ys : List ℕ) → good xs ≡ true → good (xs ++ ys) ≡ true) →
      Skips (is_digit_or_underscore n) text digits rest → good digits ≡ false →
      HasPrefix (IsRun n good Tail) text → ⊥
  none_run text rest digits grows s bad (piece, after, cut, (ds, other, f, a, g, k)) =
      elim (fronts ds digits (other ++ after) rest (cc (s.cut, append_assoc ds other after))) [
        | inl (m, e, r) ↦ false≢true (sym bad ∙ ap good e ∙ grows ds m g)
        | inr (m, e, r) ↦
            let none : m ≡ [] = no_more (is_digit_or_underscore n) rest m (other ++ after) digits
            s.stops r (rw e at a) in
            false≢true (sym bad ∙ ap good (cc (append-nil digits)) ∙ g)
      ]

  -- what follows has a first character, which is none of them
  pub tries_run : ((tail : List ℕ) → Tail tail → (c : ℕ) × (more : List ℕ) × (tail ≡ c ∷ more)
      × (is_digit_or_underscore n c ≡ false)) →
      (text rest digits : List ℕ) (answer : Option (Bor (List ℕ))) →
      Skips (is_digit_or_underscore n) text digits rest → good digits ≡ true →
      ReadsLongest Tail rest answer → ReadsLongest (IsRun n good Tail) text answer
  tries_run apart text rest digits None s g misses = λ (piece, after, cut, (ds, tail, f, a, g', k)).
      let h = apart tail k in
      let stops : Stops (is_digit_or_underscore n) (tail ++ after) = rw h.2 h.3 in
      let w = all_stops (is_digit_or_underscore n) digits ds rest (tail ++ after) s.pass a
      s.stops stops (cc (s.cut, append_assoc ds tail after)) in
      misses (tail, after, w.1, k)
  tries_run apart text rest digits (Some last) s g (tail, t) =
      takes_run (λ other k. let h = apart other k in rw h.2 h.3) text rest (chars last.now) digits
      tail s g t

pub digit_grows : (n : ℕ) (xs ys : List ℕ) → has_digit n xs ≡ true → has_digit n (xs ++ ys) ≡ true
digit_grows n xs ys h = rw (list_any-append, h) refl

pub digits_start : (text rest digits : List ℕ) → Skips (is_digit_or_underscore 10) text digits
    rest → starts_digit text ≡ true → starts_digit digits ≡ true
digits_start text [] [] s g = absurd (false≢true (rw s.cut at g))
digits_start text (c ∷ rest) [] s g =
    absurd (false≢true (sym s.stops ∙ or_left (is_digit c 10) (c == 95) (rw s.cut at g)))
digits_start text rest (d ∷ digits) s g = rw s.cut at g

-- a text that begins with a digit: its digits, and what is tried after them
pub tries_digits : (Tail : List ℕ → Type 0) →
    ((tail : List ℕ) → Tail tail → (c : ℕ) × (more : List ℕ) × (tail ≡ c ∷ more)
    × (is_digit_or_underscore 10 c ≡ false)) →
    (text rest digits : List ℕ) (answer : Option (Bor (List ℕ))) →
    Skips (is_digit_or_underscore 10) text digits rest → starts_digit text ≡ true →
    ReadsLongest Tail rest answer → ReadsLongest (IsRun 10 starts_digit Tail) text answer
tries_digits Tail apart text rest digits answer s g = tries_run 10 starts_digit Tail apart text rest
    digits answer s (digits_start text rest digits s g)

-- digits are ASCII
pub digit_low : (radix c : ℕ) → radix ≤ 16 → is_digit c radix ≡ true → c < 128
digit_low radix c h p = grind (arith, nat_tests)

pub digits_ascii_test : (radix : ℕ) → radix ≤ 16 → IsAsciiTest (is_digit_or_underscore radix)
digits_ascii_test radix h = ascii_test (is_digit_or_underscore radix) low
  where
    low : (c : ℕ) → is_digit_or_underscore radix c ≡ true → c < 128
    low c p = grind (arith, nat_tests)

-- a text that begins with a digit
pub digit_first : (text rest : List ℕ) (c : ℕ) → text ≡ c ∷ rest → starts_digit text ≡ true →
    is_digit_or_underscore 10 c ≡ true
digit_first text rest c e g = or_left (is_digit c 10) (c == 95) (rw e at g)

pub takes_no_suffix : (n : ℕ) (text : List ℕ) → ((piece after : List ℕ) → text ≡ piece ++ after →
    IsNumberSuffix n piece → piece ≡ []) → IsLongestPrefix (IsNumberSuffix n) text [] text
takes_no_suffix n text h =
    record { cut = refl; spelled = tt; longest = λ more after e s. h more after e s }

pub no_suffix_start : (n : ℕ) (text tail : List ℕ) (c : ℕ) → text ≡ c ∷ tail →
    starts_number_suffix n c ≡ false → (piece after : List ℕ) → text ≡ piece ++ after →
    IsNumberSuffix n piece → piece ≡ []
no_suffix_start n text tail c one bad [] after e s = refl
no_suffix_start n text tail c one bad (d ∷ piece) after e s =
    let same : c ≡ d = cc in absurd (false≢true (sym bad ∙ ap (starts_number_suffix n) same ∙ s.0))

pub no_suffix_word : (n : ℕ) (text : List ℕ) → (HasPrefix IsIdentifier text → ⊥) →
    (piece after : List ℕ) → text ≡ piece ++ after → IsNumberSuffix n piece → piece ≡ []
no_suffix_word n text misses [] after e s = refl
no_suffix_word n text misses (d ∷ piece) after e s = absurd (misses (d ∷ piece, after, e, s.1))

number_word : (n c : ℕ) (tail text word rest : List ℕ) → text ≡ c ∷ tail →
    starts_number_suffix n c ≡ true → IsLongestPrefix IsIdentifier text word rest →
    IsLongestPrefix (IsNumberSuffix n) text word rest
number_word n c tail text [] rest one starts taken = absurd taken.spelled
number_word n c tail text (d ∷ word) rest one starts taken = record {
  cut = taken.cut;
  spelled = (let same : d ≡ c = cc (taken.cut) in rw same starts, taken.spelled);
  longest = λ more after e s. taken.longest more after e s.1;
}

-- past an identifier that begins as a suffix does, or past nothing
pub takes_number_suffix : (n c : ℕ) (tail : List ℕ) (text : Bor (List ℕ))
    (found : Option (Bor (List ℕ))) → chars text.now ≡ c ∷ tail → starts_number_suffix n c
    ≡ true → ReadsLongest IsIdentifier (chars text.now) found → (suffix : List ℕ)
    × IsLongestPrefix (IsNumberSuffix n) (chars text.now) suffix
    (chars (unwrap_or found text).now)
takes_number_suffix n c tail text None one starts misses =
    ([], takes_no_suffix n (chars text.now) (no_suffix_word n (chars text.now) misses))
takes_number_suffix n c tail text (Some rest) one starts (word, taken) =
    (word, number_word n c tail (chars text.now) word (chars rest.now) one starts taken)

pub based_tries : (base : Base) (mark n : ℕ) (text rest : List ℕ)
    (answer : Option (Bor (List ℕ))) → mark ≡ base_mark base → text ≡ 48 ∷ mark ∷ rest →
    n ≡ radix base → ReadsLongest (IsNumber n (has_digit n)) rest answer →
    ReadsLongest (IsBased base) text answer
based_tries base mark n text rest answer m e r t =
    tries_after 48 (After (base_mark base) (IsNumber (radix base) (has_digit (radix base)))) text
    (base_mark base ∷ rest) answer (rw (← m) e)
    (tries_after (base_mark base) (IsNumber (radix base) (has_digit (radix base)))
    (base_mark base ∷ rest) rest answer refl
    (rw r at t))
