-- A string and a number are one piece each before an end.
use Rattle.std.proofs.Common.{◌≡◌, ◌∙◌, ◌*◌, ◌+◌, ℕ, List, [], ◌∷◌, ◌++◌, refl, sym, ap}
use Rattle.std.proofs.Common.{append_assoc, arith, inl, inr}
use Rattle.std.specs.Prelude.{Bool, true, false, ◌==◌, ◌||◌, fold, if◌then◌else◌}
use Rattle.std.specs.Char.{digit_value, is_digit}
use Rattle.std.specs.List.{list_all}
use Rattle.std.specs.Str.Parse.{AllDigits, digits_value_after}
use Rattle.std.proofs.lemmas.Bool.{and_from, and_parts, false≢true, lt-ltb, or_left}
use Rattle.unicode_ident.specs.Ident.{is_xid_continue}
use Rattle.tok_lexical.specs.Fits.{IsFirstFit, here}
use Rattle.tok_lexical.specs.Following.{starts_name}
use Rattle.tok_lexical.specs.Numbers.{is_digit_or_underscore, is_exponent, is_fraction}
use Rattle.tok_lexical.specs.Pieces.{IsLongestPrefix}
use Rattle.tok_lexical.specs.Private.Starts.{names_base, start_of}
use Rattle.tok_lexical.specs.Rules.{among, decimal_rules, rules_of}
use Rattle.tok_lexical.specs.Strings.{IsString, IsUnit}
use Rattle.tok_lexical.specs.Words.{IsSuffix}
use Rattle.tok_lexical.specs.declared.contents.Contents.TheVariants.{Text}
use Rattle.tok_lexical.specs.declared.rule.Mode.TheVariants.{Plain}
use Rattle.tok_lexical.specs.declared.rule.Rule.TheVariants.{Decimal, QuotedString}
use Rattle.tok_lexical.specs.declared.start.Start.{Start}
use Rattle.tok_lexical.specs.declared.start.Start.TheVariants as start
use Rattle.tok_lexical.proofs.Decimals.{decimal_only}
use Rattle.tok_lexical.proofs.Digits.{no_suffix_word, takes_no_suffix}
use Rattle.tok_lexical.proofs.EscapedChars.{heads}
use Rattle.tok_lexical.proofs.First.{decides_begun}
use Rattle.tok_lexical.proofs.Heads.{may_begin, spelled_head}
use Rattle.tok_lexical.proofs.Identifiers.{no_name}
use Rattle.tok_lexical.proofs.Longest.{no_more}
use Rattle.tok_lexical.proofs.Seconds.{decides_digit, decides_zero}
use Rattle.tok_lexical.proofs.Units.{Reaches, reaches_first, reaches_units, takes_string}
use Rattle.example_config.proofs.Choices.{differs, neither, not_first}
use Rattle.example_config.proofs.Ends.{begins_no, digits_stop, ends, known, no_start}
use Rattle.example_config.proofs.Ends.{word_stops}

-- no unit of a string begins with a quote
no_quote : (piece x y : List ℕ) → IsUnit Text piece → 34 ∷ x ≡ piece ++ y → ⊥
no_quote piece x y h e = grind (arith, heads)

-- an end is no part of a suffix
suffix_ends : (suffix more rest after : List ℕ) → ends after ≡ true → after ≡ more ++ rest
    → IsSuffix (suffix ++ more) → more ≡ []
suffix_ends suffix [] rest after h e s = refl
suffix_ends [] (m ∷ more) rest after h e (inl none) = none
suffix_ends [] (m ∷ more) rest after h e (inr w) =
    absurd (false≢true (sym (no_start m (sym (ap ends e) ∙ h)) ∙ w.0))
suffix_ends (c ∷ suffix) (m ∷ more) rest after h e (inl none) = absurd (cc)
suffix_ends (c ∷ suffix) (m ∷ more) rest after h e (inr w) =
    no_more is_xid_continue after (m ∷ more) rest suffix (word_stops after h) e w.1

-- a string literal, before an end
pub quoted_fits : (text after : List ℕ) → IsString Text text → ends after ≡ true
    → IsFirstFit (text ++ after) (rules_of Plain) (QuotedString Text) text after
quoted_fits text after (body, suffix, e, units, s) h =
    known (QuotedString Text) text after (
      34 ∷ (body ++ 34 ∷ suffix),
      decides_begun Plain 34 inside start.Quote whole refl (here taken),
    )
  where
    inside : List ℕ
    inside = body ++ 34 ∷ (suffix ++ after)

    whole : text ++ after ≡ 34 ∷ inside
    whole =
        ap (λ w. w ++ after) e ∙ ap (λ w. 34 ∷ w) (append_assoc body (34 ∷ suffix) after)

    reached : Reaches Text inside (34 ∷ (suffix ++ after)) body
    reached = reaches_units Text inside inside (34 ∷ (suffix ++ after)) [] body
        (reaches_first Text inside) units refl

    ended : IsLongestPrefix IsSuffix (suffix ++ after) suffix after
    ended = record {
      cut = refl;
      spelled = s;
      longest = λ more rest f longer. suffix_ends suffix more rest after h f longer;
    }

    taken : IsLongestPrefix (IsString Text) (text ++ after) (34 ∷ (body ++ 34 ∷ suffix)) after
    taken = takes_string Text (text ++ after) inside (34 ∷ (suffix ++ after)) (suffix ++ after)
        after body suffix whole reached (λ p. no_quote p.0 (suffix ++ after) p.1 p.3 p.2) refl
        ended

-- a digit
abbrev pub digit : ℕ → Bool
digit c = is_digit c 10

pub all_digits : (ds : List ℕ) → AllDigits 10 ds → list_all digit ds ≡ true
all_digits [] h = refl
all_digits (c ∷ ds) h =
    and_from (digit c) (list_all digit ds) (lt-ltb (digit_value c) 10 h.0) (all_digits ds h.1)

pub digits_pass : (ds : List ℕ) → list_all digit ds ≡ true
    → list_all (is_digit_or_underscore 10) ds ≡ true
digits_pass [] h = refl
digits_pass (c ∷ ds) h =
    let parts = and_parts (digit c) (list_all digit ds) h in
    and_from (is_digit_or_underscore 10 c) (list_all (is_digit_or_underscore 10) ds)
    (or_left (digit c) (c == 95) parts.0) (digits_pass ds parts.1)

-- the number that they write
pub same_number : (ds : List ℕ) (n : ℕ) → AllDigits 10 ds
    → fold (λ m c. if is_digit c 10 then m * 10 + digit_value c else m) n ds
    ≡ digits_value_after 10 n ds
same_number [] n h = refl
same_number (c ∷ ds) n h = grind (arith, lt-ltb, same_number ds (n * 10 + digit_value c) h.1)

-- no float goes on at an end
pub no_float : (after : List ℕ) → ends after ≡ true
    → (is_exponent after || is_fraction after) ≡ false
no_float after e = grind (arith, neither, differs, not_first)

no_name_at : (after : List ℕ) → ends after ≡ true → starts_name after ≡ false
no_name_at after e = grind (arith, no_start)

-- a decimal number
module _ (c : ℕ) (ds : List ℕ) (all : list_all digit (c ∷ ds) ≡ true) where
  pub first : digit c ≡ true
  first = (and_parts (digit c) (list_all digit ds) all).0

  pub others : list_all digit ds ≡ true
  others = (and_parts (digit c) (list_all digit ds) all).1

  starts : may_begin Decimal (start_of c) ≡ true
  starts =
      let one = spelled_head Decimal (c ∷ [])
      (c ∷ [], [], refl, digits_pass (c ∷ []) (and_from (digit c) true first refl), first, tt) in
      ap (λ d. may_begin Decimal (start_of d)) (heads c one.0 [] one.1 one.2) ∙ one.3

  -- it is read up to an end
  module _ (after : List ℕ) (e : ends after ≡ true) where
    no_base : names_base (ds ++ after) ≡ false
    no_base = grind (arith, neither, begins_no, others)

    found : (piece : List ℕ)
        × IsFirstFit (c ∷ (ds ++ after)) (among Plain decimal_rules) Decimal piece after
    found =
        decimal_only (c ∷ (ds ++ after)) after (c ∷ ds)
        (record { cut = refl; pass = digits_pass (c ∷ ds) all; stops = digits_stop after e }) first
        [] after
        (takes_no_suffix 10 after (no_suffix_word 10 after (no_name after (no_name_at after e))))

    pub number_fits : IsFirstFit (c ∷ (ds ++ after)) (rules_of Plain) Decimal (c ∷ ds) after
    number_fits = known Decimal (c ∷ ds) after (found.0, go (start_of c) refl starts)
      where
        go : (k : Start) → start_of c ≡ k → may_begin Decimal k ≡ true
            → IsFirstFit (c ∷ (ds ++ after)) (rules_of Plain) Decimal found.0 after
        go start.Zero is h =
            decides_zero Plain c (c ∷ (ds ++ after)) (ds ++ after) found.0 after Decimal refl
            found.1 is no_base
        go start.Digit is h =
            decides_digit Plain c (c ∷ (ds ++ after)) (ds ++ after) found.0 after Decimal refl
            found.1 is
        go k is other = absurd (false≢true other)
