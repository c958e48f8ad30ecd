-- Lemmas on pieces: lists alone.
use Rattle.std.proofs.Common.{◌≡◌, ◌∙◌, ◌⊎◌, inl, inr, ℕ, ◌+◌, ◌<◌, List, [], ◌∷◌, ◌++◌, length}
use Rattle.std.proofs.Common.{refl, sym, ap, Bool, true, append_assoc, arith}
use Rattle.std.proofs.Common.{length-append, rules, tests}
use Rattle.std.proofs.lemmas.List.{append_cancel_left, append-nil}
use Rattle.std.specs.List.{list_all}
use Rattle.std.specs.Str.{chars, IsUtf8}
use Rattle.std.specs.Char.{encode_utf8}
use Rattle.std.proofs.lemmas.Str.{chars_past_char, length-encode, len_utf8_bounds}
use Rattle.std.proofs.lemmas.Bool.{false≢true, and_parts}
use Rattle.std.proofs.lemmas.List.Folds.{list_all-append}
use Rattle.tok_lexical.specs.Pieces.{HasPrefix, IsLongestPrefix, ReadsLongest}
use Rattle.tok_lexical.specs.Private.Finds.{ReadsPrefix}
use Rattle.tok_lexical.specs.Pieces.{Stops, Skips, IsOne, After}
use Rattle.std.specs.Prelude.{Option, Some, None, MatchOption, unwrap_or}
use Rattle.std.specs.Borrow.{Bor}
use Rattle.tok_lexical.specs.Characters.{is_whitespace}
use Rattle.tok_lexical.specs.Private.Fronts.{begins_visibly}

pub chars_next : (text start mid rest : List ℕ) (c : ℕ) → IsUtf8 text → start ≡ text →
    start ≡ encode_utf8 c ++ mid → rest ≡ mid → chars text ≡ c ∷ chars rest
chars_next text start mid rest c u e g h = rw h (chars_past_char text mid c u (sym e ∙ g))

pub shorter_next : (text start mid rest : List ℕ) (c : ℕ) → start ≡ text → start ≡ encode_utf8 c
    ++ mid → rest ≡ mid → length rest < length text
shorter_next text start mid rest c e g h =
    let l : length text ≡ length (encode_utf8 c) + length mid = rw (← e, g) (length-append _ mid) in
    let b = length-encode c in
    let p = (len_utf8_bounds c).0 in
    let q : length rest ≡ length mid = ap length h in
    omega arith

pub takes_one : (p : ℕ → Bool) (text rest : List ℕ) (c : ℕ) → text ≡ c ∷ rest → p c ≡ true →
    IsLongestPrefix (IsOne p) text (c ∷ []) rest
takes_one p text rest c e h = record {
  cut = e;
  spelled = (c, h, refl);
  longest = λ more after q s. let whole = s.2 in cc;
}

pub one_read : {text rest : List ℕ} {c : ℕ} (p : ℕ → Bool) → text ≡ c ∷ rest → p c ≡ true →
    (piece : List ℕ) × IsLongestPrefix (IsOne p) text piece rest
one_read {text} {rest} {c} p e h = (c ∷ [], takes_one p text rest c e h)

pub list_all_push : (p : ℕ → Bool) (xs : List ℕ) (c : ℕ) → list_all p xs ≡ true → p c ≡ true →
    list_all p (xs ++ c ∷ []) ≡ true
list_all_push p xs c a h = rw (list_all-append p xs (c ∷ []), a, h) refl

-- a test that passes all that another does
module _ (p q : ℕ → Bool) (weaker : (c : ℕ) → p c ≡ true → q c ≡ true) where
  pub pass_weaker : (cs : List ℕ) → list_all p cs ≡ true → list_all q cs ≡ true
  pass_weaker [] h = refl
  pass_weaker (c ∷ cs) h =
      let both = and_parts (p c) (list_all p cs) h in
      rw (weaker c both.0) (pass_weaker cs both.1)

  -- what passes the one, and what passes the other after it
  pub skips_then : (text mid rest : List ℕ) → (front : List ℕ) × Skips p text front mid →
      (more : List ℕ) × Skips q mid more rest → (skipped : List ℕ) × Skips q text skipped rest
  skips_then text mid rest (front, s) (more, t) = (
    front ++ more,
    record {
      cut = cc (s.cut, t.cut, append_assoc front more rest);
      pass = rw (list_all-append q front more, pass_weaker front s.pass) t.pass;
      stops = t.stops;
    },
  )

-- one more character that passes
pub skips_more : (p : ℕ → Bool) (text mid rest front : List ℕ) (c : ℕ) → text ≡ front ++ mid →
    list_all p front ≡ true → mid ≡ c ∷ rest → p c ≡ true → (longer : List ℕ)
    × (text ≡ longer ++ rest) × (list_all p longer ≡ true)
skips_more p text mid rest front c e a g h = (
  front ++ c ∷ [],
  cc (append_assoc front (c ∷ []) rest),
  list_all_push p front c a h,
)

-- a first character that passes, and those after it
pub skips_after : (p : ℕ → Bool) (c : ℕ) (text mid rest : List ℕ) → text ≡ c ∷ mid → p c ≡ true →
    (front : List ℕ) × Skips p mid front rest → (longer : List ℕ) × Skips p text longer rest
skips_after p c text mid rest e h (front, s) =
    (c ∷ front, record { cut = cc (s.cut); pass = rw h s.pass; stops = s.stops })

-- after a space at the front, if there is one
pub skips_first_space : (text : Bor (List ℕ)) (found : Option (Bor (List ℕ)))
    (next : Bor (List ℕ)) (rest : List ℕ) → next ≡ unwrap_or found text →
    MatchOption found ((more : List ℕ) → chars text.now ≡ 32 ∷ more → ⊥)
    (λ after. chars text.now ≡ 32 ∷ chars after.now) → (front : List ℕ)
    × Skips is_whitespace (chars next.now) front rest → (longer : List ℕ)
    × Skips is_whitespace (chars text.now) longer rest
skips_first_space text None next rest e none skips =
    rw e at skips
skips_first_space text (Some after) next rest e one skips =
    skips_after is_whitespace 32 (chars text.now) (chars after.now) rest one refl (rw e at skips)

-- no white space at the front
pub skips_nothing : (text : List ℕ) → begins_visibly text ≡ true → (front : List ℕ)
    × Skips is_whitespace text front text
skips_nothing text visible =
    ([], record { cut = refl; pass = refl; stops = visible_stops text visible })
  where
    visible_stops : (cs : List ℕ) → begins_visibly cs ≡ true → Stops is_whitespace cs
    visible_stops [] h = tt
    visible_stops (c ∷ cs) h = search (rules, tests)

pub front_nil : (xs ys : List ℕ) → [] ≡ xs ++ ys → xs ≡ []
front_nil [] ys f = refl
front_nil (x ∷ xs) ys f = cc

pub all_after : (p : ℕ → Bool) (xs ys : List ℕ) → list_all p (xs ++ ys) ≡ true
    → list_all p ys ≡ true
all_after p xs ys h =
    (and_parts (list_all p xs) (list_all p ys) (rw (list_all-append p xs ys) at h)).1

-- what stops doesn't go on
pub no_more : (p : ℕ → Bool) (rest more after front : List ℕ) → Stops p rest →
    rest ≡ more ++ after → list_all p (front ++ more) ≡ true → more ≡ []
no_more p rest [] after front s e a = refl
no_more p [] (m ∷ more) after front s e a = cc
no_more p (c ∷ rest) (m ∷ more) after front s e a =
    let all = and_parts (p m) (list_all p more) (all_after p front (m ∷ more) a) in
    let same : c ≡ m = cc in
    absurd (false≢true (sym s ∙ ap p same ∙ all.0))

-- two characters, and then all that pass
pub takes_after_pair : (a b : ℕ) (p : ℕ → Bool) (text mid rest : List ℕ) → text ≡ a ∷ b ∷ mid →
    (front : List ℕ) × Skips p mid front rest → (piece : List ℕ)
    × IsLongestPrefix (λ whole. (body : List ℕ) × (whole ≡ a ∷ b ∷ body)
    × (list_all p body ≡ true)) text piece rest
takes_after_pair a b p text mid rest e (front, s) = (
  a ∷ b ∷ front,
  record {
    cut = cc (s.cut);
    spelled = (front, refl, s.pass);
    longest = λ more after q (body, g, all).
        let same : body ≡ front ++ more = cc in
        no_more p rest more after front s.stops q (rw same at all);
  },
)

-- a spelling of just two characters
pub tries_pair : (a b : ℕ) (text : List ℕ) (answer : Option (Bor (List ℕ))) →
    MatchOption answer ((more : List ℕ) → text ≡ a ∷ b ∷ more → ⊥)
    (λ rest. text ≡ a ∷ b ∷ chars rest.now) → ReadsLongest (λ p. p ≡ a ∷ b ∷ []) text answer
tries_pair a b text None misses = λ (piece, after, cut, one). misses after (cc)
tries_pair a b text (Some rest) e = (
  a ∷ b ∷ [],
  record {
    cut = e;
    spelled = refl;
    longest = λ more after q s. cc;
  },
)

-- a character, and after it what another function tries
pub tries_after : (k : ℕ) (S : List ℕ → Type 0) (text rest : List ℕ)
    (answer : Option (Bor (List ℕ))) → text ≡ k ∷ rest → ReadsLongest S rest answer →
    ReadsLongest (After k S) text answer
tries_after k S text rest None e misses = λ (piece, after, cut, (more, f, s)).
    misses (more, after, cc, s)
tries_after k S text rest (Some after) e (piece, t) = (
  k ∷ piece,
  record {
    cut = cc (t.cut);
    spelled = (piece, refl, t.spelled);
    longest = λ more after f (q, g, s). let same : q ≡ piece ++ more = cc in
        t.longest more after f (rw same at s);
  },
)

pub finds_after : (k : ℕ) (S : List ℕ → Type 0) (text rest : List ℕ)
    (answer : Option (Bor (List ℕ))) → text ≡ k ∷ rest → ReadsPrefix S rest answer →
    ReadsPrefix (After k S) text answer
finds_after k S text rest None e misses = λ (piece, after, cut, (more, f, s)).
    misses (more, after, cc, s)
finds_after k S text rest (Some after) e (piece, cut, s) = (k ∷ piece, cc, (piece, refl, s))

-- of a spelling of which none begins another, what is found is taken
abbrev pub IsFree : (List ℕ → Type 0) → Type 0
IsFree S = (a b : List ℕ) → S a → S b → (x y : List ℕ) → a ++ x ≡ b ++ y → (a ≡ b) × (x ≡ y)

pub tries_found : (S : List ℕ → Type 0) (text : List ℕ) (answer : Option (Bor (List ℕ))) →
    IsFree S → ReadsPrefix S text answer → ReadsLongest S text answer
tries_found S text None free misses = misses
tries_found S text (Some rest) free (piece, cut, s) = (
  piece,
  record {
    cut = cut;
    spelled = s;
    longest = λ more after f longer.
        let same = (free piece (piece ++ more) s longer more [] (sym (append-nil _))).0 in
        append_cancel_left piece more [] (cc (append-nil piece));
  },
)

pub tries_two : (a b mark : ℕ) (text : List ℕ) (answer : Option (Bor (List ℕ))) → mark ≡ b →
    MatchOption answer ((more : List ℕ) → text ≡ a ∷ mark ∷ more → ⊥)
    (λ rest. text ≡ a ∷ mark ∷ chars rest.now) → ReadsLongest (λ p. p ≡ a ∷ b ∷ []) text answer
tries_two a b mark text answer e h =
    tries_pair a b text answer
    (rw e at h)

-- what goes on past a piece begins the text
goes_on : {S R : List ℕ → Type 0} {text piece rest : List ℕ} → IsLongestPrefix S text piece rest →
    (more after : List ℕ) → rest ≡ more ++ after → R (piece ++ more) → HasPrefix R text
goes_on {piece = piece} t more after e r =
    (piece ++ more, after, cc (t.cut, append_assoc piece more after), r)

-- one of two spellings, where the other doesn't fit
pub either_first : (S R : List ℕ → Type 0) (text : List ℕ) (answer : Option (Bor (List ℕ))) →
    (HasPrefix R text → ⊥) → ReadsLongest S text answer → ReadsLongest (λ p. S p ⊎ R p) text
    answer
either_first S R text None fails misses = λ (piece, after, cut, h). elim h
    [ inl s ↦ misses (piece, after, cut, s) | inr r ↦ fails (piece, after, cut, r) ]
either_first S R text (Some rest) fails (piece, t) = (
  piece,
  record {
    cut = t.cut;
    spelled = inl t.spelled;
    longest = λ more after e h. elim h [
      | inl s ↦ t.longest more after e s
      | inr r ↦ absurd (fails (goes_on {R = R} t more after e r))
    ];
  },
)

pub either_second : (S R : List ℕ → Type 0) (text : List ℕ) (answer : Option (Bor (List ℕ))) →
    (HasPrefix S text → ⊥) → ReadsLongest R text answer → ReadsLongest (λ p. S p ⊎ R p) text
    answer
either_second S R text None fails misses = λ (piece, after, cut, h). elim h
    [ inl s ↦ fails (piece, after, cut, s) | inr r ↦ misses (piece, after, cut, r) ]
either_second S R text (Some rest) fails (piece, t) = (
  piece,
  record {
    cut = t.cut;
    spelled = inr t.spelled;
    longest = λ more after e h. elim h [
      | inl s ↦ absurd (fails (goes_on {R = S} t more after e s))
      | inr r ↦ t.longest more after e r
    ];
  },
)

-- two fronts of one text: one goes on from the other
pub fronts : (p q r s : List ℕ) → p ++ r ≡ q ++ s → ((m : List ℕ) × (q ≡ p ++ m) × (r ≡ m ++ s))
    ⊎ ((m : List ℕ) × (p ≡ q ++ m) × (s ≡ m ++ r))
fronts [] q r s e = inl (q, refl, e)
fronts (x ∷ p) [] r s e = inr (x ∷ p, refl, sym e)
fronts (x ∷ p) (y ∷ q) r s e =
    elim (fronts p q r s (cc)) [
      | inl (m, a, b) ↦ inl (m, cc, b)
      | inr (m, a, b) ↦ inr (m, cc, b)
    ]

longer_none : (S : List ℕ → Type 0) (text p r q s m : List ℕ) → IsLongestPrefix S text p r →
    IsLongestPrefix S text q s → q ≡ p ++ m → r ≡ m ++ s → (p ≡ q) × (r ≡ s)
longer_none S text p r q s m t u a b =
    let nothing : m ≡ [] = t.longest m s b (rw a at u.spelled) in
    (cc (append-nil p), cc)

pub takes_unique : (S : List ℕ → Type 0) (text p r q s : List ℕ) → IsLongestPrefix S text p r →
    IsLongestPrefix S text q s → (p ≡ q) × (r ≡ s)
takes_unique S text p r q s t u =
    elim (fronts p q r s (sym t.cut ∙ u.cut)) [
      | inl (m, a, b) ↦ longer_none S text p r q s m t u a b
      | inr (m, a, b) ↦ let w = longer_none S text q s p r m u t a b in (sym w.0, sym w.1)
    ]
