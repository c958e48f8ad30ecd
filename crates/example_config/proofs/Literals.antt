-- A string and a number that are printed are read as one literal, with their value.
use Rattle.std.proofs.Common.{◌≡◌, ◌∙◌, ◌<◌, ◌^◌, ◌+◌, ℕ, List, [], ◌∷◌, ◌++◌, refl, sym, ap, subst}
use Rattle.std.proofs.Common.{arith, Some, None, length}
use Rattle.std.specs.Prelude.{true, false, ◌==◌, ◌&&◌, codes, encode_utf8, encode_utf8_all}
use Rattle.std.specs.Prelude.{if◌then◌else◌}
use Rattle.std.specs.Fmt.{decimal}
use Rattle.std.specs.List.{flat_map, list_all}
use Rattle.std.specs.Str.{IsUtf8, chars}
use Rattle.std.specs.Str.Parse.{AllDigits, IsNumeral, digits_value}
use Rattle.std.proofs.lemmas.Bool.{and_from, and_parts, or_left}
use Rattle.std.proofs.lemmas.Fmt.{IsAscii-decimal, decimal_is_IsNumeral}
use Rattle.std.proofs.lemmas.List.{append-nil}
use Rattle.std.proofs.lemmas.Str.{IsUtf8-append, IsUtf8-from_ascii, IsUtf8-nil}
use Rattle.std.proofs.lemmas.Str.{chars-IsAscii, encodes-IsAscii, encodes-chars}
use Rattle.std.proofs.lemmas.Str.{scalars-chars}
use lib.Utf8.{scalars}
use Rattle.tok_lexical.specs.Numbers.{has_digit, is_bare}
use Rattle.tok_lexical.specs.Widths.{bytes}
use Rattle.tok_lexical.specs.declared.contents.Contents.TheVariants.{Text}
use Rattle.tok_lexical.specs.declared.lex_error_kind.LexErrorKind.TheVariants.{FloatLiteral}
use Rattle.tok_lexical.specs.declared.rule.Mode.TheVariants.{Plain}
use Rattle.tok_lexical.specs.declared.rule.Rule.TheVariants.{Decimal, QuotedString}
use Rattle.tok_lexical.proofs.Fits.{fits_longest}
use Rattle.tok_leaves.specs.Leaves.{literal}
use Rattle.tok_leaves.specs.Quoting.{escaped, in_quotes}
use Rattle.tok_leaves.specs.Spans.{source}
use Rattle.tok_leaves.specs.declared.span.Span.{Span}
use Rattle.tok_values.specs.Integers.{IsDigits, IsInteger, base_of}
use Rattle.tok_values.specs.Laws.{StringsAreRead, StringsKeepText}
use Rattle.tok_values.specs.Numbers.{number}
use Rattle.tok_values.specs.Values.{IntegersHaveOneValue, StringsHaveOneValue, integer_value}
use Rattle.tok_values.specs.Values.{string_value}
use Rattle.tok_core.specs.Forest.{leaf, no_trees, tree}
use Rattle.tok_core.specs.Lexical.Items.{leaf_first, no_items}
use Rattle.example_config.proofs.Ascii.{low_utf8}
use Rattle.example_config.proofs.Choices.{differs, either, not_second, past}
use Rattle.example_config.proofs.Ends.{ends}
use Rattle.example_config.proofs.Fits.{all_digits, digit, digits_pass, first, no_float, number_fits}
use Rattle.example_config.proofs.Fits.{others, quoted_fits, same_number}
use Rattle.example_config.proofs.Pieces.{Reads, piece_read}

-- what is written for a text is UTF-8
escaped_utf8 : (c : ℕ) → IsUtf8 (encode_utf8 c) → IsUtf8 (escaped c)
escaped_utf8 c u =
    either IsUtf8 (c == 34) _ _ (low_utf8 (codes "\\\"") refl)
    (either IsUtf8 (c == 92) _ _ (low_utf8 (codes "\\\\") refl)
    (either IsUtf8 (c == 10) _ _ (low_utf8 (codes "\\n") refl)
    (either IsUtf8 (c == 13) _ _ (low_utf8 (codes "\\r") refl)
    (either IsUtf8 (c == 9) _ _ (low_utf8 (codes "\\t") refl)
    (either IsUtf8 (c == 0) _ _ (low_utf8 (codes "\\0") refl) u)))))

escapes_utf8 : (cs : List ℕ) → scalars cs ≡ true → IsUtf8 (flat_map escaped cs)
escapes_utf8 [] h = IsUtf8-nil
escapes_utf8 (c ∷ cs) h =
    let parts = and_parts _ (scalars cs) h in
    IsUtf8-append (escaped c) (flat_map escaped cs)
    (escaped_utf8 c (c ∷ [], (and_from _ true parts.0 refl, append-nil (encode_utf8 c))))
    (escapes_utf8 cs parts.1)

pub quoted_utf8 : (t : List ℕ) → IsUtf8 t → IsUtf8 (in_quotes (chars t))
quoted_utf8 t u = search (IsUtf8-append, escapes_utf8, scalars-chars, low_utf8)

pub string_read : StringsAreRead → (number at : ℕ) (t after : List ℕ) → IsUtf8 t
    → ends after ≡ true → (span : Span)
    × Reads number at (chars (in_quotes (chars t)) ++ after)
    (tree (leaf (literal (in_quotes (chars t)) span)) no_trees) after
string_read are_read number at t after u e = (
  source number at (at + bytes text),
  subst (λ w. Reads number at (text ++ after)
      (tree (leaf (literal w (source number at (at + bytes text)))) no_trees) after)
      (encodes-chars (in_quotes (chars t)) (quoted_utf8 t u))
      (piece_read number at (QuotedString Text) text after _
      (quoted_fits text after (fits_longest (are_read Plain t u).0).spelled e) refl
      (leaf_first no_items)),
)
  where
    text : List ℕ
    text = chars (in_quotes (chars t))

-- and its value is the text
pub string_means : StringsKeepText → StringsHaveOneValue → (t : List ℕ) → IsUtf8 t
    → string_value (chars (in_quotes (chars t))) ≡ Some t
string_means keep one t u = (one (chars (in_quotes (chars t))) t).0 (keep t u)

-- a decimal number: its base is ten, and its value what its digits write
module _ (c : ℕ) (ds : List ℕ) (all : list_all digit (c ∷ ds) ≡ true) where
  base_is : (ds : List ℕ) → list_all digit ds ≡ true → base_of (c ∷ ds) ≡ (10, c ∷ ds)
  base_is [] h = refl
  base_is (d ∷ ds) h =
      let other : (k : ℕ) → digit k ≡ false → (d == k) ≡ false =
      λ k n. differs digit d k (and_parts (digit d) (list_all digit ds) h).0 n in
      past ((c == 48) && (d == 120)) _ _ _ (not_second (c == 48) _ (other 120 refl))
      (past ((c == 48) && (d == 111)) _ _ _ (not_second (c == 48) _ (other 111 refl))
      (past ((c == 48) && (d == 98)) _ _ _ (not_second (c == 48) _ (other 98 refl)) refl))

  is_integer : IsInteger (c ∷ ds) (number 10 (c ∷ ds)) []
  is_integer = (
    first c ds all,
    subst (λ (b : ℕ × List ℕ). IsDigits b.0 b.1 [] (number 10 (c ∷ ds)))
        (sym (base_is ds (others c ds all)))
        (record {
          digits = c ∷ ds;
          skips = record {
            cut = sym (append-nil (c ∷ ds));
            pass = digits_pass (c ∷ ds) all;
            stops = tt;
          };
          some = or_left (digit c) (has_digit 10 ds) (first c ds all);
          ends = tt;
          is = refl;
        }),
  )

digits_read : (number at c : ℕ) (ds after : List ℕ) → list_all digit (c ∷ ds) ≡ true
    → ends after ≡ true → (span : Span)
    × Reads number at (c ∷ (ds ++ after))
    (tree (leaf (literal (encode_utf8_all (c ∷ ds)) span)) no_trees) after
digits_read number at c ds after all e = (
  source number at (at + bytes (c ∷ ds)),
  piece_read number at Decimal (c ∷ ds) after _ (number_fits c ds all after e)
      (ap (λ b. if b then Some FloatLiteral else None)
      (not_second (is_bare 10 (c ∷ ds)) _ (no_float after e)))
      (leaf_first no_items),
)

pub number_read : (number at n : ℕ) (after : List ℕ) → n < 2 ^ 64 → ends after ≡ true
    → (span : Span)
    × Reads number at (chars (decimal n) ++ after)
    (tree (leaf (literal (decimal n) span)) no_trees) after
number_read number at n after small e =
    let is = (decimal_is_IsNumeral n small).0 in
    let found = go (decimal n) is.0 is.1 in (
      found.0,
      subst (λ w. Reads number at (w ++ after) (tree (leaf (literal (decimal n) found.0)) no_trees)
          after) (sym (chars-IsAscii (decimal n) (IsAscii-decimal n small)))
          (subst (λ w. Reads number at (decimal n ++ after)
          (tree (leaf (literal w found.0)) no_trees) after)
          (encodes-IsAscii (decimal n) (IsAscii-decimal n small)) found.1),
    )
  where
    go : (ds : List ℕ) → 0 < length ds → AllDigits 10 ds → (span : Span)
        × Reads number at (ds ++ after)
        (tree (leaf (literal (encode_utf8_all ds) span)) no_trees) after
    go [] none h = absurd (omega (arith, none))
    go (c ∷ ds) some h = digits_read number at c ds after (all_digits (c ∷ ds) h) e

pub number_means : IntegersHaveOneValue → (n : ℕ) → n < 2 ^ 64
    → integer_value (chars (decimal n)) ≡ Some (n, [])
number_means one n small =
    ap integer_value (chars-IsAscii (decimal n) (IsAscii-decimal n small))
    ∙ go (decimal n) is.0.0 is.0.1 is.1
  where
    is : IsNumeral 10 (decimal n) × (digits_value 10 (decimal n) ≡ n)
    is = decimal_is_IsNumeral n small

    go : (ds : List ℕ) → 0 < length ds → AllDigits 10 ds → digits_value 10 ds ≡ n
        → integer_value ds ≡ Some (n, [])
    go [] none h e = absurd (omega (arith, none))
    go (c ∷ ds) some h e =
        (one (c ∷ ds) (number 10 (c ∷ ds)) []).0 (is_integer c ds (all_digits (c ∷ ds) h))
        ∙ ap (λ m. Some (m, [])) (same_number (c ∷ ds) 0 h ∙ e)

pub number_utf8 : (n : ℕ) → n < 2 ^ 64 → IsUtf8 (decimal n)
number_utf8 n small = IsUtf8-from_ascii (decimal n) (IsAscii-decimal n small)
