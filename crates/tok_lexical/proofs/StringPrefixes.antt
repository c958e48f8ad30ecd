-- The starts of raw, byte and C strings.
use Rattle.std.proofs.Common.{◌≡◌, ◌∙◌, ℕ, inl, inr, List, [], ◌∷◌, ◌++◌, refl, sym, ap, arith}
use Rattle.std.proofs.Common.{append_assoc, true}
use Rattle.std.specs.Prelude.{◌==◌, Option, Some, None, MatchOption}
use Rattle.std.specs.List.{list_all}
use Rattle.std.specs.Str.{chars}
use Rattle.std.specs.Borrow.{Bor}
use Rattle.std.proofs.lemmas.Bool.{ne_eqb}
use Rattle.tok_lexical.specs.Private.Finds.{ReadsPrefix}
use Rattle.tok_lexical.specs.Pieces.{Skips, Stops, After}
use Rattle.tok_lexical.specs.Strings.{IsHashes, IsPrefixed, IsPrefixOf, IsStringPrefix}
use Rattle.tok_lexical.specs.declared.contents.Contents.{Contents}
use Rattle.tok_lexical.specs.declared.contents.Contents.TheVariants.{Text, Bytes, C}
use Rattle.tok_lexical.proofs.Longest.{list_all_push, IsFree, finds_after}
use Rattle.tok_lexical.proofs.EscapedChars.{all_stop, free_after}
use Rattle.tok_lexical.proofs.Digits.{all_stops}

-- raw strings
pub hashes_more : (text mid rest front : List ℕ) → text ≡ front ++ mid →
    list_all (λ c. c == 35) front ≡ true → mid ≡ 35 ∷ rest → (longer : List ℕ)
    × (text ≡ longer ++ rest) × (list_all (λ c. c == 35) longer ≡ true)
hashes_more text mid rest front e a g = (
  front ++ 35 ∷ [],
  cc (append_assoc front (35 ∷ []) rest),
  list_all_push (λ c. c == 35) front 35 a refl,
)

stops_other : (rest : List ℕ) → ((more : List ℕ) → rest ≡ 35 ∷ more → ⊥) → Stops (λ c. c == 35) rest
stops_other [] h = tt
stops_other (c ∷ rest) h = ne_eqb c 35 (λ e. h rest (ap (λ w. w ∷ rest) e))

pub hashes_over : (text rest front : List ℕ) → text ≡ front ++ rest →
    list_all (λ c. c == 35) front ≡ true → ((more : List ℕ) → rest ≡ 35 ∷ more → ⊥) →
    (front : List ℕ) × Skips (λ c. c == 35) text front rest
hashes_over text rest front e a h =
    (front, record { cut = e; pass = a; stops = stops_other rest h })

pub finds_hashes : (text rest front : List ℕ) (answer : Option (Bor (List ℕ))) →
    Skips (λ c. c == 35) text front rest →
    MatchOption answer ((more : List ℕ) → rest ≡ 34 ∷ more → ⊥)
    (λ last. rest ≡ 34 ∷ chars last.now) → ReadsPrefix IsHashes text answer
finds_hashes text rest front None s misses = λ (piece, after, cut, (hs, e, a)).
    let w = all_stops (λ c. c == 35) front hs rest (34 ∷ after) s.pass a s.stops refl
    (cc (s.cut, append_assoc hs (34 ∷ []) after)) in
    misses after w.1
finds_hashes text rest front (Some last) s e = (
  front ++ 34 ∷ [],
  cc (s.cut, append_assoc front (34 ∷ []) (chars last.now)),
  (front, refl, s.pass),
)

free_hashes : IsFree IsHashes
free_hashes a b (hs, e, p) (ks, f, q) x y g =
    let w = all_stop (λ c. c == 35) 34 hs ks x y refl p q
    (cc (append_assoc hs (34 ∷ []) x, append_assoc ks (34 ∷ []) y)) in
    (cc, w.1)

pub prefixed_quote : (text rest : List ℕ) → text ≡ 34 ∷ rest → (piece : List ℕ)
    × (text ≡ piece ++ rest) × IsPrefixed piece
prefixed_quote text rest e = (34 ∷ [], e, inl refl)

pub prefixed_raw : (text : List ℕ) (answer : Option (Bor (List ℕ))) →
    ((more : List ℕ) → text ≡ 34 ∷ more → ⊥) → ReadsPrefix (After 114 IsHashes) text answer →
    ReadsPrefix IsPrefixed text answer
prefixed_raw text None a misses = λ (piece, after, cut, h). elim h
    [ inl e ↦ a after (cc) | inr s ↦ misses (piece, after, cut, s) ]
prefixed_raw text (Some rest) a (piece, cut, s) = (piece, cut, inr s)

free_prefixed : IsFree IsPrefixed
free_prefixed a b (inl e) (inl f) x y g = (cc, cc)
free_prefixed a b (inl e) (inr (more, f, s)) x y g = absurd (grind arith)
free_prefixed a b (inr (more, e, s)) (inl f) x y g = absurd (grind arith)
free_prefixed a b (inr s) (inr t) x y g = free_after 114 IsHashes free_hashes a b s t x y g

pub free_prefix_of : (contents : Contents) → IsFree (IsPrefixOf contents)
free_prefix_of Text = free_after 114 IsHashes free_hashes
free_prefix_of Bytes = free_after 98 IsPrefixed free_prefixed
free_prefix_of C = free_after 99 IsPrefixed free_prefixed

pub free_raw_start : IsFree IsStringPrefix
free_raw_start a b (inl s) (inl t) x y g = free_after 114 IsHashes free_hashes a b s t x y g
free_raw_start a b (inr (inl s)) (inr (inl t)) x y g =
    free_after 98 IsPrefixed free_prefixed a b s t x y g
free_raw_start a b (inr (inr s)) (inr (inr t)) x y g =
    free_after 99 IsPrefixed free_prefixed a b s t x y g
free_raw_start a b (inl (m, e, s)) (inr (inl (n, f, t))) x y g = absurd (grind arith)
free_raw_start a b (inl (m, e, s)) (inr (inr (n, f, t))) x y g = absurd (grind arith)
free_raw_start a b (inr (inl (m, e, s))) (inl (n, f, t)) x y g = absurd (grind arith)
free_raw_start a b (inr (inl (m, e, s))) (inr (inr (n, f, t))) x y g = absurd (grind arith)
free_raw_start a b (inr (inr (m, e, s))) (inl (n, f, t)) x y g = absurd (grind arith)
free_raw_start a b (inr (inr (m, e, s))) (inr (inl (n, f, t))) x y g = absurd (grind arith)

after_head : (k : ℕ) (S : List ℕ → Type 0) (c : ℕ) (rest piece after : List ℕ) →
    c ∷ rest ≡ piece ++ after → After k S piece → c ≡ k
after_head k S c rest piece after e (more, f, s) = cc

pub raw_start_byte : (text rest : List ℕ) (c : ℕ) (answer : Option (Bor (List ℕ))) →
    text ≡ c ∷ rest → c ≡ 98 → ReadsPrefix IsPrefixed rest answer →
    ReadsPrefix IsStringPrefix text answer
raw_start_byte text rest c None one k misses = λ (piece, after, cut, h). elim h [
  | inl s ↦ absurd (let w = after_head 114 _ c rest piece after (sym one ∙ cut) s in omega arith)
  | inr t ↦ elim t [
    | inl s ↦ finds_after 98 IsPrefixed text rest None (one ∙ ap (λ w. w ∷ rest) k) misses
        (piece, after, cut, s)
    | inr s ↦ absurd (let w = after_head 99 _ c rest piece after (sym one ∙ cut) s in omega arith)
  ]
]
raw_start_byte text rest c (Some last) one k (piece, cut, s) =
    (98 ∷ piece, cc, inr (inl (piece, refl, s)))

pub raw_start_c : (text rest : List ℕ) (c : ℕ) (answer : Option (Bor (List ℕ))) →
    text ≡ c ∷ rest → c ≡ 99 → ReadsPrefix IsPrefixed rest answer →
    ReadsPrefix IsStringPrefix text answer
raw_start_c text rest c None one k misses = λ (piece, after, cut, h). elim h [
  | inl s ↦ absurd (let w = after_head 114 _ c rest piece after (sym one ∙ cut) s in omega arith)
  | inr t ↦ elim t [
    | inl s ↦ absurd (let w = after_head 98 _ c rest piece after (sym one ∙ cut) s in omega arith)
    | inr s ↦ finds_after 99 IsPrefixed text rest None (one ∙ ap (λ w. w ∷ rest) k) misses
        (piece, after, cut, s)
  ]
]
raw_start_c text rest c (Some last) one k (piece, cut, s) =
    (99 ∷ piece, cc, inr (inr (piece, refl, s)))

pub raw_start_other : (text rest : List ℕ) (c : ℕ) (answer : Option (Bor (List ℕ))) →
    text ≡ c ∷ rest → (c ≡ 98 → ⊥) → (c ≡ 99 → ⊥) → ReadsPrefix (After 114 IsHashes) text
    answer → ReadsPrefix IsStringPrefix text answer
raw_start_other text rest c None one a b misses = λ (piece, after, cut, h). elim h [
  | inl s ↦ misses (piece, after, cut, s)
  | inr t ↦ elim t [
    | inl s ↦ a (after_head 98 _ c rest piece after (sym one ∙ cut) s)
    | inr s ↦ b (after_head 99 _ c rest piece after (sym one ∙ cut) s)
  ]
]
raw_start_other text rest c (Some last) one a b (piece, cut, s) = (piece, cut, inl s)
