-- Lines and words, one cut off after the other.
use Rattle.std.proofs.Common.{◌≡◌, ℕ, ◌+◌, ◌-◌, ◌<◌, true, false, eqb, List, [], ◌∷◌, ◌++◌, length}
use Rattle.std.proofs.Common.{take, drop, Option, Some, None, IfSome, Bor, refl, ap, ◌∙◌}
use Rattle.std.proofs.Common.{append_assoc, arith, length-append, subst}
use Rattle.std.proofs.Math.Seq.{take-append_seam}
use Rattle.std.proofs.lemmas.List.{append-nil}
use Rattle.std.proofs.lemmas.List.Concat.{flat_map-append}
use Rattle.std.proofs.lemmas.List.Elements.{All-append, All-cons}
use Rattle.std.proofs.lemmas.Bool.{eqb-true, false_from_ne_true}
use Rattle.std.proofs.lemmas.List.Sums.{fails_before_first, position_or_len_is}
use Rattle.std.proofs.lemmas.List.Splits.{slice_split_first, slice_split_none, slice_split_at}
use Rattle.std.proofs.lemmas.List.Splits.{length-slice_split}
use Rattle.std.proofs.lemmas.Str.{IsCharBoundary-after_ascii}
use Rattle.memchr.specs.Find.{IsFirstByte, is_byte}
use Rattle.std.specs.List.{All, slice_split, position_or_len}
use Rattle.std.specs.Str.{IsCharBoundary, IsUtf8}
use Rattle.tok_lexical.specs.Ascii.{line_feed}
use Rattle.replay_program.specs.Input.{lines, is_cut, text_of, texts_in, parts_of, lines_left}
use Rattle.syn_replay.specs.ReportText.{as_line}

-- the bytes of a text have their first such byte where the text has it
first_in : (c : ℕ) (bytes text : List ℕ) (k : Option ℕ) → bytes ≡ text
    → IsFirstByte (is_byte c) bytes k → IsFirstByte (is_byte c) text k
first_in c bytes text k same first = subst (λ z. IsFirstByte (is_byte c) z k) same first

-- a character begins after the first such byte, which is ASCII
pub after_first : (c : ℕ) (bytes text : List ℕ) (k : ℕ) → c < 128 → IsUtf8 text → bytes ≡ text
    → IsFirstByte (is_byte c) bytes (Some k) → IsCharBoundary text (k + 1)
after_first c bytes text k low u same first =
    let (none, found) = first_in c bytes text (Some k) same first in
    IsCharBoundary-after_ascii text k u none.high (omega (arith, low, eqb-true _ _ found))

-- the first such byte cuts off the first part
pub cut_at : (c : ℕ) (bytes text front back : List ℕ) (k : ℕ) → bytes ≡ text
    → IsFirstByte (is_byte c) bytes (Some k) → front ≡ take k text → back ≡ drop (k + 1) text
    → slice_split (λ b. eqb b c) text ≡ front ∷ slice_split (λ b. eqb b c) back
cut_at c bytes text front back k same first f b =
    let (none, found) = first_in c bytes text (Some k) same first in
    let at : position_or_len (λ b. eqb b c) text ≡ k =
    position_or_len_is (λ b. eqb b c) text k 0 (omega (arith, none.high))
    (λ j before. false_from_ne_true _ (none.before j (omega arith) before)) (λ _. found) in
    slice_split_first (λ b. eqb b c) text 0 (omega (arith, at, none.high))
    ∙ rw (at, f, b)

-- a text without such a byte is one part
pub cut_nowhere : (c : ℕ) (bytes text : List ℕ) → bytes ≡ text
    → IsFirstByte (is_byte c) bytes None → slice_split (λ b. eqb b c) text ≡ text ∷ []
cut_nowhere c bytes text same first =
    let none = first_in c bytes text None same first in
    let past : position_or_len (λ b. eqb b c) text ≡ length text =
    position_or_len_is (λ b. eqb b c) text (length text) 0 (omega arith)
    (λ j before. false_from_ne_true _ (none j (omega arith) before))
    (λ inside. absurd (omega arith)) in
    slice_split_none (λ b. eqb b c) text
    (λ k d inside. fails_before_first (λ b. eqb b c) text k d (omega arith))

-- the lines before what is left hold no cut
pub record IsPast (input : List ℕ) (left : Option (Bor (List ℕ))) : Type 0 where
  pub passed : List (List ℕ)
  pub uncut : All (λ line. is_cut line ≡ false) passed
  pub all : lines input ≡ passed ++ lines_left left
  pub seam : IfSome left (λ rest. (input ≡ text_of passed ++ rest.now) × IsUtf8 rest.now)

text_of-push : (ls : List (List ℕ)) (l : List ℕ) → text_of (ls ++ l ∷ []) ≡ text_of ls ++ as_line l
text_of-push ls l =
    cc (flat_map-append as_line ls (l ∷ []), append-nil (as_line l))

uncut_push : (ls : List (List ℕ)) (l : List ℕ) → All (λ line. is_cut line ≡ false) ls
    → is_cut l ≡ false → All (λ line. is_cut line ≡ false) (ls ++ l ∷ [])
uncut_push ls l h e =
    All-append (λ line. is_cut line ≡ false) ls (l ∷ []) h
    (All-cons (λ line. is_cut line ≡ false) l [] e (λ k d inside. absurd (omega arith)))

-- a line that is no cut is passed
pub past_more : (input line : List ℕ) (rest : Bor (List ℕ)) (others : Option (Bor (List ℕ)))
    → IsPast input (Some rest) → lines rest.now ≡ line ∷ lines_left others
    → IfSome others (λ b. rest.now ≡ as_line line ++ b.now) → IfSome others (λ b. IsUtf8 b.now)
    → is_cut line ≡ false → IsPast input others
past_more input line rest others past e j u uncut = record {
  passed = past.passed ++ line ∷ [];
  uncut = uncut_push past.passed line past.uncut uncut;
  all =
      cc (past.all, append_assoc past.passed (line ∷ []) (lines_left others));
  seam = seam others j u;
} where
  seam : (b : Option (Bor (List ℕ))) → IfSome b (λ b. rest.now ≡ as_line line ++ b.now)
      → IfSome b (λ b. IsUtf8 b.now)
      → IfSome b (λ r. (input ≡ text_of (past.passed ++ line ∷ []) ++ r.now) × IsUtf8 r.now)
  seam None j u = tt
  seam (Some b) j u = (
    cc (
      past.seam.0,
      append_assoc (text_of past.passed) (as_line line) b.now,
      text_of-push past.passed line,
    ),
    u,
  )

-- a cut line ends the text
pub past_cut : (input line text : List ℕ) (rest : Bor (List ℕ)) (others : Option (Bor (List ℕ)))
    → IsPast input (Some rest) → lines rest.now ≡ line ∷ lines_left others → is_cut line ≡ true
    → text ≡ take (length input - length rest.now) input → (before : List (List ℕ))
    × (text ≡ text_of before)
    ×
    (slice_split is_cut (lines input) ≡ before
    ∷ slice_split is_cut (lines_left others))
past_cut input line text rest others past e found t =
    let len : length input - length rest.now ≡ length (text_of past.passed) =
    omega (arith, ap length past.seam.0, length-append (text_of past.passed) rest.now) in (
      past.passed,
      cc (past.seam.0, take-append_seam (text_of past.passed) rest.now),
      ap (slice_split is_cut) (past.all ∙ ap (λ z. past.passed ++ z) e)
          ∙ slice_split_at is_cut past.passed line (lines_left others) past.uncut found,
    )

-- without a cut the input is one part
pub past_all : (input : List ℕ) → IsPast input None
    → slice_split is_cut (lines input) ≡ lines input ∷ []
past_all input past =
    let e : lines input ≡ past.passed = past.all ∙ append-nil past.passed in
    rw e (slice_split_none is_cut past.passed past.uncut)

-- more than the bytes that are left, while something is
abbrev pub left_len : Option (Bor (List ℕ)) → ℕ
left_len None = 0
left_len (Some rest) = length rest.now + 1

pub left_less : (line : List ℕ) (rest : Bor (List ℕ)) (others : Option (Bor (List ℕ)))
    → IfSome others (λ b. rest.now ≡ as_line line ++ b.now) → left_len others < left_len (Some rest)
left_less line rest None j = omega arith
left_less line rest (Some b) j =
    omega (
      arith,
      ap length j,
      length-append (as_line line) b.now,
      length-append line (line_feed ∷ []),
    )

long_parts : (text other commands : List (List ℕ)) (more : List (List (List ℕ))) → 0 < length more
    → texts_in (text ∷ (other ∷ (commands ∷ more))) ≡ None
long_parts text other commands [] h = absurd (omega arith)
long_parts text other commands (p ∷ ps) h = refl

-- three cuts
pub parts_cut_again : (input : List ℕ) (before inside : List (List ℕ))
    → slice_split is_cut (lines input) ≡ before ∷ slice_split is_cut inside
    → (middle after : List (List ℕ)) → slice_split is_cut inside ≡ middle ∷ slice_split is_cut after
    → (third more : List (List ℕ)) → slice_split is_cut after ≡ third ∷ slice_split is_cut more
    → parts_of input ≡ None
parts_cut_again input before inside e middle after q third more r =
    let some : 0 < length (slice_split is_cut more) =
    omega (arith, length-slice_split is_cut more) in
    rw (e, q, r) (long_parts before middle third (slice_split is_cut more) some)
