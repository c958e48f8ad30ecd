-- A name is one piece before an end, whatever its first character is.
use Rattle.std.proofs.Common.{◌≡◌, ◌<◌, ◌≤◌, ℕ, List, [], ◌∷◌, ◌++◌, refl, ap}
use Rattle.std.proofs.Common.{arith, inl, inr, eqb-true}
use Rattle.std.specs.Prelude.{Bool, true, false, ◌==◌, ◌||◌, ◌&&◌}
use Rattle.std.specs.Prelude.{nat_le}
use Rattle.std.specs.List.{list_all}
use Rattle.std.specs.Char.{is_digit}
use Rattle.std.proofs.lemmas.Bool.{cases_lt, false≢true, ne_eqb}
use Rattle.std.proofs.lemmas.Bool.Decides.{nat_tests}
use Rattle.unicode_ident.specs.Ident.{is_xid_continue}
use Rattle.unicode_ident.proofs.Computing.{unicode_ident}
use Rattle.unicode_ident.proofs.IdentLemmas.{is_xid_continue-ascii, is_xid_start-ascii}
use Rattle.tok_lexical.specs.Characters.{is_whitespace}
use Rattle.tok_lexical.specs.Fits.{IsFirstFit}
use Rattle.tok_lexical.specs.Pieces.{Skips, Stops, after_first, begins_with}
use Rattle.tok_lexical.specs.Private.Starts.{is_mark, opens_literal, opens_string, start_of}
use Rattle.tok_lexical.specs.Rules.{rules_of}
use Rattle.tok_lexical.specs.Starts.{is_prefix}
use Rattle.tok_lexical.specs.Words.{IsIdentifier, IsRawIdentifier, is_identifier_start}
use Rattle.tok_lexical.specs.declared.rule.Mode.TheVariants.{Plain}
use Rattle.tok_lexical.specs.declared.rule.Rule.TheVariants.{Identifier, RawIdentifier}
use Rattle.tok_lexical.specs.declared.start.Start.{Start}
use Rattle.tok_lexical.specs.declared.start.Start.TheVariants as start
use Rattle.tok_lexical.proofs.Digits.{tail_passes}
use Rattle.tok_lexical.proofs.EscapedChars.{tails}
use Rattle.tok_lexical.proofs.First.{decides_letter}
use Rattle.tok_lexical.proofs.Longest.{no_more}
use Rattle.tok_lexical.proofs.Seconds.{decides_prefix, decides_raw}
use Rattle.tok_lexical.proofs.Starts.{letter_starts}
use Rattle.example_config.proofs.Choices.{chosen, differs, neither, not_second, past}
use Rattle.example_config.proofs.Ends.{begins_no, ends, is_end, known, word_stops}

-- what a word may begin with
abbrev is_word : Start → Bool
is_word start.Letter = true
is_word start.Prefix = true
is_word k = false

prefix_starts : (c : ℕ) → is_prefix c ≡ true → start_of c ≡ start.Prefix
prefix_starts c h = go (c == 98) (c == 99) refl refl h
  where
    go : (a b : Bool) → (c == 98) ≡ a → (c == 99) ≡ b → (a || (b || (c == 114))) ≡ true →
        start_of c ≡ start.Prefix
    go a b e f k = grind (arith, eqb-true)

low_word : (c : ℕ) → c < 128 → is_identifier_start c ≡ true → is_word (start_of c) ≡ true
low_word c low h = grind (arith, is_xid_start-ascii, prefix_starts, letter_starts)

-- marks and white space beyond ASCII begin no word
none_begins : (is_identifier_start 0xFEFF ≡ false) × (is_identifier_start 0xAB ≡ false)
    × (is_identifier_start 0xBB ≡ false) × (is_identifier_start 0x85 ≡ false)
    × (is_identifier_start 0x200E ≡ false) × (is_identifier_start 0x200F ≡ false)
    × (is_identifier_start 0x2028 ≡ false) × (is_identifier_start 0x2029 ≡ false)
unfolding unicode_ident
none_begins = (refl, refl, refl, refl, refl, refl, refl, refl)

-- what a character beyond ASCII that begins a word is not
module _ (c : ℕ) (high : 128 ≤ c) (h : is_identifier_start c ≡ true) where
  above : (k : ℕ) → k < 128 → (c == k) ≡ false
  above k low = ne_eqb c k (λ e. absurd (omega (arith, e, low, high)))

  besides : (k : ℕ) → is_identifier_start k ≡ false → (c == k) ≡ false
  besides k n = differs is_identifier_start c k h n

  no_mark : is_mark c ≡ false
  no_mark = grind (arith, neither, besides, none_begins)

  no_control : (nat_le 9 c && nat_le c 13) ≡ false
  no_control = grind (arith, nat_tests)

  no_space : is_whitespace c ≡ false
  no_space = grind (arith, neither, no_control, above, besides, none_begins)

  no_digit : is_digit c 10 ≡ false
  no_digit = grind (arith, nat_tests)

  no_prefix : is_prefix c ≡ false
  no_prefix = grind (arith, neither, above)

  pub high_starts : start_of c ≡ start.Letter
  high_starts = grind (arith, past, no_mark, no_space, above, no_digit, no_prefix, chosen)

starts_word : (c : ℕ) → is_identifier_start c ≡ true → is_word (start_of c) ≡ true
starts_word c h = elim (cases_lt c 128) [
  | inl low ↦ low_word c low h
  | inr high ↦ ap is_word (high_starts c (omega (arith, high)) h)
]

-- the rest of a word begins neither a literal nor a raw identifier
no_string : (word after : List ℕ) → list_all is_xid_continue word ≡ true → ends after ≡ true
    → opens_string (word ++ after) ≡ false
no_string word after h e = grind (arith, neither, begins_no, is_xid_continue-ascii)

no_raw : (word after : List ℕ) → list_all is_xid_continue word ≡ true → ends after ≡ true
    → (begins_with 114 (word ++ after) && opens_string (after_first (word ++ after))) ≡ false
no_raw [] after h e =
    ap (λ b. b && opens_string (after_first after)) (begins_no 114 is_end [] after refl refl refl e)
no_raw (c ∷ word) after h e =
    not_second (c == 114) _ (no_string word after (tail_passes is_xid_continue c word h) e)

no_literal : (word after : List ℕ) → list_all is_xid_continue word ≡ true → ends after ≡ true
    → opens_literal (word ++ after) ≡ false
no_literal word after h e =
    grind (arith, neither, begins_no, is_xid_continue-ascii, no_string, no_raw)

-- a plain identifier, before an end
pub word_fits : (c : ℕ) (cs after : List ℕ) → IsIdentifier (c ∷ cs) → ends after ≡ true
    → IsFirstFit (c ∷ (cs ++ after)) (rules_of Plain) Identifier (c ∷ cs) after
word_fits c cs after w e =
    known Identifier (c ∷ cs) after (go (start_of c) refl (starts_word c w.0))
  where
    rest : (front : List ℕ) × Skips is_xid_continue (cs ++ after) front after
    rest = (cs, record { cut = refl; pass = w.1; stops = word_stops after e })

    go : (k : Start) → start_of c ≡ k → is_word k ≡ true → (found : List ℕ)
        × IsFirstFit (c ∷ (cs ++ after)) (rules_of Plain) Identifier found after
    go start.Letter is k =
        decides_letter Plain c (c ∷ (cs ++ after)) (cs ++ after) refl after is rest
    go start.Prefix is k =
        decides_prefix Plain c (c ∷ (cs ++ after)) (cs ++ after) refl is after
        (no_literal cs after w.1 e) rest
    go k is other = absurd (false≢true other)

-- a raw identifier, before an end
raw_longest : (word more rest after : List ℕ) → IsRawIdentifier word → Stops is_xid_continue after
    → after ≡ more ++ rest → IsRawIdentifier (word ++ more) → more ≡ []
raw_longest word more rest after h s cut k = grind (arith, tails, no_more)

pub raw_fits : (word after : List ℕ) → IsRawIdentifier word → ends after ≡ true
    → IsFirstFit (word ++ after) (rules_of Plain) RawIdentifier word after
raw_fits word after r e =
    decides_raw Plain 114 (word ++ after) (r.0 ++ after) (ap (λ w. w ++ after) r.1) refl word after
    (record {
      cut = refl;
      spelled = r;
      longest = λ more rest f longer.
          raw_longest word more rest after r (word_stops after e) f longer;
    })
