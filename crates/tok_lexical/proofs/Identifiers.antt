-- Identifiers, plain and raw.
use Rattle.tok_lexical.proofs.Longest.{either_first, pass_weaker, skips_then, no_more}
use Rattle.std.specs.Cmp.{both_ways}
use Rattle.std.proofs.Common.{◌≡◌, ◌∙◌, ℕ, ◌<◌, inl, inr, List, [], ◌∷◌, ◌++◌, refl, sym, ap, arith}
use Rattle.std.proofs.Common.{true, false, Bool, zero, suc, rules, tests, ◌≤◌}
use Rattle.std.specs.Prelude.{◌==◌, ◌||◌, Option, length, MatchBool, codes, nat_lt, slice_index}
use Rattle.std.specs.Prelude.{encode_utf8_all}
use Rattle.std.specs.List.{list_all}
use Rattle.std.specs.Char.{is_ascii_alphabetic}
use Rattle.std.specs.Str.{chars, IsUtf8, bytes_eq}
use Rattle.std.specs.Borrow.{Bor}
use Rattle.std.proofs.lemmas.List.{append-nil}
use Rattle.std.proofs.lemmas.Bool.{false≢true, ltb-true, false_from_ne_true, leb-false}
use Rattle.tok_lexical.specs.Private.Fronts.{begins_beyond_ascii, is_ascii_continue}
use Rattle.unicode_ident.specs.Ident.{is_xid_continue}
use Rattle.unicode_ident.proofs.IdentLemmas.{is_xid_continue-ascii, is_xid_start-ascii}
use Rattle.tok_lexical.specs.Pieces.{IsLongestPrefix, HasPrefix, ReadsLongest, Skips, Stops}
use Rattle.tok_lexical.specs.Following.{starts_name}
use Rattle.tok_lexical.specs.Words.{is_identifier_start, IsIdentifier, IsRawIdentifier, IsName}
use Rattle.tok_lexical.specs.Words.{has_no_raw, is_raw_prefix}
use Rattle.tok_lexical.proofs.Digits.{head_passes, tail_passes}
use Rattle.std.proofs.lemmas.Str.{encodes-chars, encodes-IsAscii, chars-IsAscii, chars-nil}
use Rattle.std.proofs.lemmas.Str.Ascii.{IsAscii-nil}
use Rattle.std.proofs.lemmas.Slice.Eq.{bytes_eq-Decides}

pub takes_identifier : (text mid rest : List ℕ) (c : ℕ) → text ≡ c ∷ mid → is_identifier_start c
    ≡ true → (front : List ℕ) × Skips is_xid_continue mid front rest → (piece : List ℕ)
    × IsLongestPrefix IsIdentifier text piece rest
takes_identifier text mid rest c e h (front, s) = (
  c ∷ front,
  record {
    cut = cc (s.cut);
    spelled = (h, s.pass);
    longest = λ more after q w. no_more is_xid_continue rest more after front s.stops q w.1;
  },
)

-- identifiers, plain or raw
word_head : (name : List ℕ) → IsRawIdentifier name → (more : List ℕ) × (name ≡ 114 ∷ 35 ∷ more)
word_head name (more, e, (last, f, w)) = (last, cc)

pub name_plain : (text : List ℕ) (answer : Option (Bor (List ℕ))) →
    (HasPrefix IsRawIdentifier text → ⊥) → ReadsLongest IsIdentifier text answer →
    ReadsLongest IsName text answer
name_plain = either_first IsIdentifier IsRawIdentifier

-- what doesn't begin as an identifier
pub no_name : (text : List ℕ) → starts_name text ≡ false → HasPrefix IsIdentifier text → ⊥
no_name text e ([], after, cut, s) = s
no_name text e (c ∷ piece, after, cut, s) = false≢true (sym e ∙ ap starts_name cut ∙ s.0)

-- an identifier may begin with an ASCII letter and with an underscore
pub letter_start : (c : ℕ) → c < 128 → (is_letter : Bool) → is_letter ≡ is_ascii_alphabetic c →
    (is_letter || (c == 95)) ≡ is_identifier_start c
letter_start c h is_letter e = rw (e, is_xid_start-ascii c h) refl

-- a word has no number sign
raw_no_word : (name more : List ℕ) → IsRawIdentifier name → IsIdentifier (name ++ more) → ⊥
raw_no_word name more r w =
    let h = word_head name r in
    let v = rw h.1 at w in
    false≢true (sym (is_xid_continue-ascii 35 (omega arith)) ∙ head_passes is_xid_continue 35
    (h.0 ++ more) v.1)

pub name_raw : (text rest piece : List ℕ) → IsLongestPrefix IsRawIdentifier text piece rest →
    IsLongestPrefix IsName text piece rest
name_raw text rest piece t = record {
  cut = t.cut;
  spelled = inr t.spelled;
  longest = λ more after e h. elim h [
    | inl w ↦ absurd (raw_no_word piece more t.spelled w)
    | inr r ↦ t.longest more after e r
  ];
}

pub ascii_at : (t : List ℕ) (i : ℕ) → list_all (λ c. nat_lt c 128) t ≡ true → slice_index t i < 128
ascii_at [] i h = IsAscii-nil i
ascii_at (x ∷ t) zero h = ltb-true x 128 (head_passes (λ c. nat_lt c 128) x t h)
ascii_at (x ∷ t) (suc i) h = ascii_at t i (tail_passes (λ c. nat_lt c 128) x t h)

same_text : (bytes t : List ℕ) → IsUtf8 bytes → list_all (λ c. nat_lt c 128) t ≡ true →
    bytes_eq bytes t ≡ bytes_eq (chars bytes) t
same_text bytes t u h =
    let ascii : (i : ℕ) → slice_index t i < 128 = λ i. ascii_at t i h in
    let one = bytes_eq-Decides bytes t in
    let other = bytes_eq-Decides (chars bytes) t in
    both_ways _ _ (λ e. other.1 (rw (one.0 e) (chars-IsAscii t ascii)))
    (λ e. one.1 (cc (encodes-chars bytes u, encodes-IsAscii t ascii, other.0 e)))

either : (a b c d : Bool) → a ≡ b → c ≡ d → (a || c) ≡ (b || d)
either a b c d e f = cc

-- the same word, by its bytes and by its characters
pub no_raw_chars : (bytes : List ℕ) → IsUtf8 bytes → has_no_raw bytes ≡ has_no_raw (chars bytes)
no_raw_chars bytes u =
    either _ _ _ _ (same_text bytes (codes "_") u refl)
    (either _ _ _ _ (same_text bytes (codes "self") u refl)
    (either _ _ _ _ (same_text bytes (codes "Self") u refl)
    (either _ _ _ _ (same_text bytes (codes "super") u refl)
    (same_text bytes (codes "crate") u refl))))

pub raw_prefix_chars : (bytes : List ℕ) → IsUtf8 bytes → is_raw_prefix bytes
    ≡ is_raw_prefix (chars bytes)
raw_prefix_chars bytes u = either _ _ _ _ (same_text bytes (codes "r") u refl)
    (same_text bytes (codes "br") u refl)

-- a text of which all is taken, or some is left
pub is_whole : (text rest : List ℕ) → rest ≡ [] → (piece : List ℕ)
    × IsLongestPrefix IsIdentifier text piece rest → IsIdentifier text
is_whole text rest e (piece, t) =
    rw (t.cut, e, append-nil piece) t.spelled

is_part : (text rest : List ℕ) → (rest ≡ [] → ⊥) → (piece : List ℕ)
    × IsLongestPrefix IsIdentifier text piece rest → IsIdentifier text → ⊥
is_part text rest some (piece, t) whole =
    some (t.longest rest [] (sym (append-nil rest)) (rw t.cut at whole))

-- the same of the answer
pub whole_identifier : (text rest : List ℕ) (b : Bool) → b ≡ (length rest == 0) → IsUtf8 rest →
    (piece : List ℕ) × IsLongestPrefix IsIdentifier text piece (chars rest) →
    MatchBool b (IsIdentifier text) (IsIdentifier text → ⊥)
whole_identifier text [] true e u t = is_whole text (chars []) chars-nil t
whole_identifier text [] false e u t = absurd (false≢true e)
whole_identifier text (x ∷ rest) true e u t =
    absurd (grind arith)
whole_identifier text (x ∷ rest) false e u t = is_part text (chars (x ∷ rest))
    (λ none.
    let bytes : x ∷ rest ≡ [] = sym (encodes-chars (x ∷ rest) u) ∙ ap encode_utf8_all none in cc)
    t

-- ASCII characters that may go on, and then what may go on from there
pub ascii_continues_low : (x : ℕ) → is_ascii_continue x ≡ true → x < 128
ascii_continues_low x h = let l : x ≤ 122 = search (rules, tests) in omega arith

ascii_continues : (x : ℕ) → is_ascii_continue x ≡ true → is_xid_continue x ≡ true
ascii_continues x h = is_xid_continue-ascii x (ascii_continues_low x h) ∙ h

pub all_continue : (cs : List ℕ) → list_all is_ascii_continue cs ≡ true
    → list_all is_xid_continue cs ≡ true
all_continue = pass_weaker is_ascii_continue is_xid_continue ascii_continues

-- where no character beyond ASCII follows
pub stops_ascii : (rest : List ℕ) → Stops is_ascii_continue rest →
    begins_beyond_ascii rest ≡ false → Stops is_xid_continue rest
stops_ascii [] s b = tt
stops_ascii (c ∷ rest) s b = is_xid_continue-ascii c (leb-false 128 c b) ∙ s

pub skips_ascii_continues : (text rest : List ℕ) → (front : List ℕ)
    × Skips is_ascii_continue text front rest → begins_beyond_ascii rest ≡ false →
    (skipped : List ℕ) × Skips is_xid_continue text skipped rest
skips_ascii_continues text rest (front, s) b =
    let pass = all_continue front s.pass in
    (front, record { cut = s.cut; pass = pass; stops = stops_ascii rest s.stops b })

pub skips_more_continues : (text mid rest : List ℕ) → (front : List ℕ)
    × Skips is_ascii_continue text front mid → (more : List ℕ)
    × Skips is_xid_continue mid more rest → (skipped : List ℕ)
    × Skips is_xid_continue text skipped rest
skips_more_continues = skips_then is_ascii_continue is_xid_continue ascii_continues

-- beyond ASCII none goes on
pub no_continue_beyond : (x : ℕ) → (x < 128 → ⊥) → is_ascii_continue x ≡ false
no_continue_beyond x beyond =
    false_from_ne_true (is_ascii_continue x) (λ h. beyond (ascii_continues_low x h))
