-- The table of the starts of ASCII characters, held against their definition.
use Rattle.std.proofs.Common.{◌≡◌, ◌∙◌, refl, sym, ℕ, ◌<◌, ◌≤◌, Bool, get_or, ap, List, ◌∷◌}
use Rattle.std.proofs.Common.{true, false, arith, rules, tests}
use Rattle.std.specs.Prelude.{◌==◌, ◌||◌, ◌&&◌, not, map, if◌then◌else◌}
use Rattle.std.specs.List.{range_with_len}
use Rattle.std.proofs.lemmas.Bool.{eqb-true}
use Rattle.tok_lexical.proofs.Texts.{none_begins}
use Rattle.std.specs.Char.{is_digit, is_ascii_alphabetic}
use Rattle.tok_lexical.proofs.Tables.{in_table}
use Rattle.unicode_ident.proofs.IdentLemmas.{is_xid_start-ascii}
use Rattle.tok_lexical.specs.Characters.{is_whitespace, is_punct}
use Rattle.tok_lexical.specs.Private.Starts.{start_of, is_mark}
use Rattle.tok_lexical.specs.Starts.{is_prefix, begins_letter, begins_punct}
use Rattle.tok_lexical.specs.declared.delimiter.Delimiter.TheVariants.{Parenthesis, Brace, Bracket}
use Rattle.tok_lexical.specs.declared.start.Start.{Start}
use Rattle.tok_lexical.specs.declared.start.Start.TheVariants.{Whitespace, Zero, Digit, Prefix}
use Rattle.tok_lexical.specs.declared.start.Start.TheVariants.{Letter, Slash, Quote, Apostrophe}
use Rattle.tok_lexical.specs.declared.start.Start.TheVariants.{Opening, Closing, Punct, Rest}
use Rattle.tok_lexical.specs.declared.start.TheConstants.{ASCII}

-- where this is the answer on letters
abbrev start_if : Bool → ℕ → Start
start_if letter c =
    if is_mark c then Rest
    else if is_whitespace c then Whitespace
    else if c == 48 then Zero
    else if is_digit c 10 then Digit
    else if is_prefix c then Prefix
    else if c == 47 then Slash
    else if c == 34 then Quote
    else if c == 39 then Apostrophe
    else if c == 40 then Opening Parenthesis
    else if c == 41 then Closing Parenthesis
    else if c == 91 then Opening Bracket
    else if c == 93 then Closing Bracket
    else if c == 123 then Opening Brace
    else if c == 125 then Closing Brace
    else if letter then Letter
    else if is_punct c then Punct
    else Rest

-- the same of an ASCII character, with no table of Unicode
abbrev ascii_start : ℕ → Start
ascii_start c = start_if (is_ascii_alphabetic c || (c == 95)) c

-- what the code makes of a byte of its table
abbrev pub meant : ℕ → Start
meant b =
    if b == 32 then Whitespace
    else if b == 48 then Zero
    else if b == 49 then Digit
    else if b == 98 then Prefix
    else if b == 97 then Letter
    else if b == 47 then Slash
    else if b == 34 then Quote
    else if b == 39 then Apostrophe
    else if b == 40 then Opening Parenthesis
    else if b == 41 then Closing Parenthesis
    else if b == 91 then Opening Bracket
    else if b == 93 then Closing Bracket
    else if b == 123 then Opening Brace
    else if b == 125 then Closing Brace
    else if b == 43 then Punct
    else Rest

by_table : (c : ℕ) → c < 128 → meant (get_or ASCII c 0) ≡ ascii_start c
by_table c h = in_table meant ascii_start ASCII Rest c refl refl h

-- what a character starts, by its byte in the table
pub start_by : (c : ℕ) → c < 128 → start_of c ≡ meant (get_or ASCII c 0)
start_by c h =
    sym (by_table c h ∙ ap (λ letter. start_if (letter || (c == 95)) c)
    (sym (is_xid_start-ascii c h)))

-- a byte of the table, where the character is told by it
told_at : (b : ℕ) (is : ℕ → Bool) → map (λ x. x == b) ASCII ≡ map is (range_with_len 0 128) →
    (c : ℕ) → c < 128 → (get_or ASCII c 0 == b) ≡ is c
told_at b is same c h = in_table (λ x. x == b) is ASCII false c same refl h

-- an ASCII letter or an underscore that is no prefix of a literal
abbrev pub is_letter : ℕ → Bool
is_letter c = (is_ascii_alphabetic c || (c == 95)) && not (is_prefix c)

-- a punct other than a slash
abbrev pub is_other_punct : ℕ → Bool
is_other_punct c = is_punct c && not (c == 47)

pub letter_by : (c : ℕ) → c < 128 → (get_or ASCII c 0 == 97) ≡ is_letter c
letter_by c h = told_at 97 is_letter refl c h

pub punct_by : (c : ℕ) → c < 128 → (get_or ASCII c 0 == 43) ≡ is_other_punct c
punct_by c h = told_at 43 is_other_punct refl c h

letter_low : (c : ℕ) → is_letter c ≡ true → c < 128
letter_low c h = let l : c ≤ 122 = search (rules, tests) in omega arith

punct_low : (c : ℕ) → is_other_punct c ≡ true → c < 128
punct_low c h = let l : c ≤ 126 = search (rules, tests) in omega arith

-- what such a character starts
pub letter_starts : (c : ℕ) → is_letter c ≡ true → start_of c ≡ Letter
letter_starts c h =
    rw (
      start_by c (letter_low c h),
      eqb-true (get_or ASCII c 0) 97
          (letter_by c (letter_low c h) ∙ h),
    ) refl

pub punct_starts : (c : ℕ) → is_other_punct c ≡ true → start_of c ≡ Punct
punct_starts c h =
    rw (
      start_by c (punct_low c h),
      eqb-true (get_or ASCII c 0) 43
          (punct_by c (punct_low c h) ∙ h),
    ) refl

pub no_letter_begins : (text : List ℕ) →
    ((c : ℕ) (more : List ℕ) → c < 128 → text ≡ c ∷ more → ⊥) → false ≡ begins_letter text
no_letter_begins = none_begins is_letter letter_low begins_letter refl (λ c rest. refl)

pub no_punct_begins : (text : List ℕ) →
    ((c : ℕ) (more : List ℕ) → c < 128 → text ≡ c ∷ more → ⊥) → false ≡ begins_punct text
no_punct_begins = none_begins is_other_punct punct_low begins_punct refl (λ c rest. refl)
