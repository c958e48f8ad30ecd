-- White space, of which ASCII characters are found by their bytes.
use Rattle.tok_lexical.proofs.Longest.{pass_weaker, skips_then}
use Rattle.std.proofs.Common.{◌≡◌, ℕ, ◌<◌, ◌≤◌, List, [], ◌∷◌, ◌++◌, refl, true, false}
use Rattle.std.proofs.Common.{Bool, inl, inr, get_or, sym, ◌∙◌}
use Rattle.std.proofs.Common.{append_assoc, arith, rules, tests}
use Rattle.std.specs.List.{list_all}
use Rattle.std.specs.Prelude.{encode_utf8, encode_utf8_all, ◌==◌, ◌||◌}
use Rattle.std.specs.Str.{chars, IsUtf8}
use Rattle.std.proofs.lemmas.Str.{byte_from_char, encodes-chars}
use Rattle.std.proofs.lemmas.Bool.{leb-false, leb-true, cases_lt, false_from_ne_true, false≢true}
use Rattle.std.proofs.lemmas.Bool.{or_cases, eqb-true}
use Rattle.std.proofs.lemmas.List.Folds.{list_all-append}
use Rattle.tok_lexical.specs.Private.Fronts.{begins_beyond_ascii, is_ascii_whitespace}
use Rattle.tok_lexical.specs.Private.Fronts.{begins_passing}
use Rattle.tok_lexical.specs.Characters.{is_whitespace}
use Rattle.tok_lexical.specs.Pieces.{Skips, Stops}
use Rattle.tok_lexical.specs.Scans.{IsAsciiTest}
use Rattle.tok_lexical.proofs.Runs.{ascii_test}

-- white space that is ASCII
blanks_low : (x : ℕ) → is_ascii_whitespace x ≡ true → x < 128
blanks_low x h = let l : x ≤ 32 = search (rules, tests) in omega arith

pub blanks_ascii_test : IsAsciiTest is_ascii_whitespace
blanks_ascii_test = ascii_test is_ascii_whitespace blanks_low

blank_whitespace : (c : ℕ) → is_ascii_whitespace c ≡ true → is_whitespace c ≡ true
blank_whitespace c h = search (rules, tests)

blanks_pass : (cs : List ℕ) → list_all is_ascii_whitespace cs ≡ true → list_all is_whitespace cs
    ≡ true
blanks_pass = pass_weaker is_ascii_whitespace is_whitespace blank_whitespace

-- a run of it after other white space
pub skips_blanks : (text mid rest front : List ℕ) → text ≡ front ++ mid →
    list_all is_whitespace front ≡ true → (run : List ℕ) × Skips is_ascii_whitespace mid run rest →
    (longer : List ℕ) × (text ≡ longer ++ rest) × (list_all is_whitespace longer ≡ true)
skips_blanks text mid rest front e a (run, s) = (
  front ++ run,
  cc (s.cut, append_assoc front run rest),
  rw (list_all-append is_whitespace front run, a) (blanks_pass run s.pass),
)

stops_blank : (rest : List ℕ) → Stops is_ascii_whitespace rest → begins_beyond_ascii rest ≡ false →
    Stops is_whitespace rest
stops_blank [] s b = tt
stops_blank (c ∷ rest) s b = let l = leb-false 128 c b in search (rules, tests)

-- where no character beyond ASCII follows it
pub skips_ascii_blanks : (text rest : List ℕ) → (front : List ℕ)
    × Skips is_ascii_whitespace text front rest → begins_beyond_ascii rest ≡ false →
    (skipped : List ℕ) × Skips is_whitespace text skipped rest
skips_ascii_blanks text rest (front, s) b = (
  front,
  record { cut = s.cut; pass = blanks_pass front s.pass; stops = stops_blank rest s.stops b },
)

-- and where more may follow
pub skips_more_blanks : (text mid rest : List ℕ) → (front : List ℕ)
    × Skips is_ascii_whitespace text front mid → (more : List ℕ)
    × Skips is_whitespace mid more rest → (skipped : List ℕ) × Skips is_whitespace text skipped rest
skips_more_blanks = skips_then is_ascii_whitespace is_whitespace blank_whitespace

-- a character beyond ASCII is none of it
pub none_beyond : (text : List ℕ) → begins_beyond_ascii text ≡ true → (front : List ℕ)
    × Skips is_ascii_whitespace text front text
none_beyond text beyond = ([], record { cut = refl; pass = refl; stops = stops text beyond })
  where
    stops : (cs : List ℕ) → begins_beyond_ascii cs ≡ true → Stops is_ascii_whitespace cs
    stops [] b = tt
    stops (c ∷ cs) b = let l : 128 ≤ c = leb-true 128 c b in search (rules, tests)

-- white space beyond ASCII begins with one of two bytes
module _ (c : ℕ) (rest : List ℕ) where
  abbrev BeginsSo : ℕ → Type 0
  BeginsSo d = (get_or (encode_utf8 d ++ rest) 0 0 == 0xC2)
      || (get_or (encode_utf8 d ++ rest) 0 0 == 0xE2) ≡ true

  or_this : (d : ℕ) (other : Bool) → BeginsSo d → (other ≡ true → BeginsSo c) →
      other || (c == d) ≡ true → BeginsSo c
  or_this d other this those h = elim (or_cases other (c == d) h) [
    | inl is ↦ those is
    | inr is ↦ rw (eqb-true c d is) this
  ]

  other_byte : 128 ≤ c → is_whitespace c ≡ true → BeginsSo c
  unfolding lib.Utf8.encode
  other_byte high =
      or_this 0x2029 _ refl (or_this 0x2028 _ refl (or_this 0x200F _ refl
      (or_this 0x200E _ refl (or_this 0x85 _ refl
      (λ low. let l = blanks_low c low in absurd (omega arith))))))

pub other_begins : (text : List ℕ) → IsUtf8 text → (get_or text 0 0 < 128 → ⊥) →
    begins_passing is_whitespace (chars text) ≡ true →
    (get_or text 0 0 == 0xC2) || (get_or text 0 0 == 0xE2) ≡ true
other_begins text u beyond b = go (chars text) (encodes-chars text u) b
  where
    go : (cs : List ℕ) → encode_utf8_all cs ≡ text → begins_passing is_whitespace cs ≡ true →
        (get_or text 0 0 == 0xC2) || (get_or text 0 0 == 0xE2) ≡ true
    go [] e b = absurd (false≢true b)
    go (c ∷ cs) e b = elim (cases_lt c 128) [
      | inl low ↦ absurd (beyond (rw (byte_from_char text (encode_utf8_all cs) c (sym e) low) low))
      | inr high ↦ rw (← e) (other_byte c (encode_utf8_all cs) high b)
    ]

-- and no white space begins where none may
pub none_may_begin : (text : List ℕ) (may : Bool) → may ≡ false →
    (begins_passing is_whitespace text ≡ true → may ≡ true) → (front : List ℕ)
    × Skips is_whitespace text front text
none_may_begin text may never told =
    ([], record { cut = refl; pass = refl; stops = stops text told })
  where
    stops : (cs : List ℕ) → (begins_passing is_whitespace cs ≡ true → may ≡ true) →
        Stops is_whitespace cs
    stops [] h = tt
    stops (c ∷ cs) h = false_from_ne_true (is_whitespace c) (λ w. false≢true (sym never ∙ h w))
