-- A C string by the grammar has a value if no character in it is U+0000.
use Rattle.std.proofs.Common.{◌≡◌, ◌∙◌, ℕ, List, [], ◌∷◌, ◌++◌, Bool, true, false, Some}
use Rattle.std.proofs.Common.{ap, append_assoc, arith, inl, inr, refl, sym}
use Rattle.std.specs.Prelude.{◌==◌, ◌||◌, encode_utf8_all}
use Rattle.std.specs.Char.{is_ascii_alphabetic}
use Rattle.std.specs.List.{list_all}
use Rattle.std.proofs.lemmas.Bool.{and_from, cases_Bool, false≢true, ne_eqb}
use Rattle.std.proofs.lemmas.List.{append-nil}
use Rattle.std.proofs.lemmas.List.Folds.{list_any-append}
use Rattle.unicode_ident.specs.Ident.{is_xid_continue}
use Rattle.unicode_ident.proofs.IdentLemmas.{is_xid_continue-ascii}
use Rattle.tok_lexical.specs.Contents.{has_bare_return, has_misfit, has_zero, is_wrong}
use Rattle.tok_lexical.specs.Pieces.{is_neither}
use Rattle.tok_lexical.specs.Strings.{IsCEscape, code, hex, line_end, simple}
use Rattle.tok_lexical.specs.Words.{IsSuffix, is_identifier_start}
use Rattle.tok_lexical.specs.declared.contents.Contents.TheVariants.{C}
use Rattle.tok_lexical.proofs.Identifiers.{letter_start}
use Rattle.tok_values.specs.CStrings.{bytes_of, c_unit, names_byte}
use Rattle.tok_values.specs.Laws.{CStringsHaveValues, RawCStringsHaveValues}
use Rattle.tok_values.specs.Strings.{is_blank, without_blanks}
use Rattle.tok_values.specs.Suffixed.{InRaw, IsCStrValue, IsStringBy}
use Rattle.tok_values.proofs.Escaped.{Names, all_neither, code_names, hex_names, named_unit}
use Rattle.tok_values.proofs.Escaped.{neither_of, simple_names}
use Rattle.tok_values.proofs.Suffixed.{c_quote_stops, c_some, string_once}
use Rattle.tok_values.proofs.Valued.{Begins, Escapes, Reads, quoted_value, raw_value}
use Rattle.tok_values.proofs.Quoted.{plain_unit}
use Rattle.tok_values.proofs.Zeros.{all_encoded_null, has_null, misfit_null, no_nul, no_null}
use Rattle.tok_values.proofs.Zeros.{or_end, passed}

-- a character is U+0000, or an escape names it
abbrev zeros : List ℕ → Bool
zeros text = has_null text || has_zero false text

-- then the meaning has a zero
abbrev Counts : (text meaning : List ℕ) → Type 0
Counts text meaning = has_null meaning ≡ zeros text

joined : (front after text meaning : List ℕ) (z : Bool) → has_null front ≡ z →
    zeros text ≡ (z || zeros after) → Counts after meaning → Counts text (front ++ meaning)
joined front after text meaning z e f h = rw (list_any-append (λ c. c == 0) front meaning, e, h, f)

regroup : (a b c : Bool) → ((a || b) || c) ≡ ((a || false) || (b || c))
regroup a b c = grind arith

exchange : (a b c : Bool) → (b || (a || c)) ≡ ((a || false) || (b || c))
exchange a b c = grind arith

plain_counts : (c : ℕ) (rest : List ℕ) → (c == 34) ≡ false → (c == 92) ≡ false →
    (c == 13) ≡ false → Begins c_unit Counts (c ∷ rest) rest
plain_counts c rest quote slash return = (
  encode_utf8_all (c ∷ []),
  c_some (c ∷ rest) (c ∷ []) rest false (rw slash)
      (plain_unit false c rest slash quote return refl),
  λ m h. joined (encode_utf8_all (c ∷ [])) rest (c ∷ rest) m ((c == 0) || false)
      (all_encoded_null (c ∷ []))
      (rw slash (regroup (c == 0) (has_null rest) (has_zero false rest))) h,
)

feed_counts : (rest : List ℕ) → Begins c_unit Counts (13 ∷ 10 ∷ rest) rest
feed_counts rest = (
  encode_utf8_all (10 ∷ []),
  c_some (13 ∷ 10 ∷ rest) (10 ∷ []) rest false refl refl,
  λ m h. joined (encode_utf8_all (10 ∷ [])) rest (13 ∷ 10 ∷ rest) m false
      (all_encoded_null (10 ∷ [])) refl h,
)

bytes_null : (is_byte : Bool) (c : ℕ) → has_null (bytes_of is_byte (c ∷ [])) ≡ ((c == 0) || false)
bytes_null true c = refl
bytes_null false c = all_encoded_null (c ∷ [])

-- an escape that names a character
named_counts : (is_byte : Bool) (text rest : List ℕ) → is_byte ≡ names_byte (92 ∷ (text ++ rest)) →
    Names is_byte text rest → Begins c_unit Counts (92 ∷ (text ++ rest)) rest
named_counts is_byte text rest e n = (
  bytes_of is_byte (n.char ∷ []),
  c_some (92 ∷ (text ++ rest)) (n.char ∷ []) rest is_byte e (named_unit n),
  λ m h. joined (bytes_of is_byte (n.char ∷ [])) rest (92 ∷ (text ++ rest)) m
      ((n.char == 0) || false) (bytes_null is_byte n.char)
      (rw (n.null, n.zero) (exchange (n.char == 0) (has_null rest) (has_zero false rest))) h,
)

-- blanks are no U+0000
blanks_count : (text : List ℕ) → zeros (without_blanks text) ≡ zeros text
blanks_count [] = refl
blanks_count (c ∷ text) =
    let again = blanks_count text in
    elim (cases_Bool (is_blank c)) [
      | inl e ↦
          let other = passed (c ∷ []) text
          (and_from _ true (neither_of 0 92 is_blank refl refl c e) refl) in
          cc (other.0, other.1)
      | inr e ↦ simp e
    ]

line_counts : (text rest : List ℕ) →
    c_unit (92 ∷ (text ++ rest)) ≡ Some ([], without_blanks rest) →
    zeros (92 ∷ (text ++ rest)) ≡ zeros rest → Escapes c_unit Counts text rest
line_counts text rest e f = inr ([], e, λ m h. h ∙ blanks_count rest ∙ sym f)

escape_counts : (text rest : List ℕ) → IsCEscape text → Escapes c_unit Counts text rest
escape_counts text rest (inl (simple c h)) =
    let other : (c == 120) ≡ false = ne_eqb c 120 (λ e. cc) in
    inl (named_counts false (c ∷ []) rest (sym other) (simple_names false c rest h))
escape_counts text rest (inl (hex {text = digits} h)) =
    inl (named_counts true (120 ∷ digits) rest refl (hex_names true digits rest h))
escape_counts text rest (inl (code e h)) = absurd (false≢true (sym e))
escape_counts text rest (inl (line_end e (inl f))) = line_counts text rest (rw f) (rw f)
escape_counts text rest (inl (line_end e (inr f))) = line_counts text rest (rw f) (rw f)
escape_counts text rest (inr (braced, e, h)) =
    rw e (inl (named_counts false (117 ∷ braced) rest refl (code_names braced rest h)))

units : Reads c_unit Counts C (λ c. true)
units = record {
  plain = λ c rest quote slash return fit. plain_counts c rest quote slash return;
  feed = feed_counts;
  escaped = escape_counts;
}

all_fit : (text : List ℕ) → list_all (λ c. true) text ≡ true
all_fit [] = refl
all_fit (c ∷ text) = all_fit text

-- a suffix has neither U+0000 nor a backslash
suffix_other : (suffix : List ℕ) → IsSuffix suffix → list_all (is_neither 0 92) suffix ≡ true
suffix_other suffix (inl e) = rw e
suffix_other [] (inr h) = refl
suffix_other (c ∷ suffix) (inr h) =
    and_from _ _
    (neither_of 0 92 is_identifier_start
    (sym (letter_start 0 (omega arith) (is_ascii_alphabetic 0) refl))
    (sym (letter_start 92 (omega arith) (is_ascii_alphabetic 92) refl)) c h.0)
    (all_neither 0 92 is_xid_continue (is_xid_continue-ascii 0 (omega arith))
    (is_xid_continue-ascii 92 (omega arith)) suffix h.1)

suffix_passed : (suffix : List ℕ) → IsSuffix suffix →
    (has_null suffix ≡ false) × (has_zero false suffix ≡ false)
suffix_passed suffix s = rw append-nil at (passed suffix [] (suffix_other suffix s))

-- after `c`, bytes that a string means are its value if no zero is among them
module _ (text string bytes : List ℕ) (e : text ≡ 99 ∷ string) (h : IsStringBy c_unit string bytes)
  where
    has_value : has_null bytes ≡ false → (value : List ℕ) × IsCStrValue text value
    has_value none = (bytes, ((string, e, h), no_nul bytes none))

    of_value : (value : List ℕ) × IsCStrValue text value → has_null bytes ≡ false
    of_value (value, ((other, f, k), none)) =
        let same : other ≡ string = cc in
        rw (← string_once c_unit c_quote_stops string value bytes (rw same at k) h)
        (no_null value none)

pub c_strings_have_values : CStringsHaveValues
c_strings_have_values text (string, e, (body, suffix, f, us, s)) kept =
    let cut : text ≡ 99 ∷ 34 ∷ (body ++ 34 ∷ suffix) = e ∙ ap (λ w. 99 ∷ w) f in
    let none = suffix_passed suffix s in
    let ends : Counts (34 ∷ suffix) [] = cc (none.0, none.1) in
    let (meaning, means, read, counts) = quoted_value C c_unit (λ c. true) Counts units suffix ends
    string body f us s
    (record { fit = all_fit body; kept = ap has_bare_return (sym cut) ∙ kept }) in
    let counted : is_wrong C text ≡ has_null meaning =
    cc (kept, cut, misfit_null body suffix none.0, counts) in (
      λ h. counted ∙ of_value text string meaning e (inl read) h,
      λ right. has_value text string meaning e (inl read) (sym counted ∙ right),
    )

-- of a raw one
raw_counted : (string value : List ℕ) → InRaw string value →
    has_misfit C (99 ∷ string) ≡ has_null value
raw_counted string value (raw, suffix, cut, (quoted, e, (contents, (signs, f, a, l, m), is)), s) =
    let front : List ℕ = 99 ∷ 114 ∷ (signs ++ 34 ∷ contents) in
    let rest : List ℕ = signs ++ suffix in
    let all : 99 ∷ string ≡ front ++ 34 ∷ rest =
    rw (cut, e, f) (simp append_assoc) in
    let other = all_neither 0 92 (λ c. c == 35) refl refl signs a in
    let none : has_null rest ≡ false =
    (passed signs suffix other).0 ∙ (suffix_passed suffix s).0 in
    ap (has_misfit C) all ∙ misfit_null front rest none
    ∙ list_any-append (λ c. c == 0) (signs ++ 34 ∷ contents) (34 ∷ rest)
    ∙ ap (λ b. has_null (signs ++ 34 ∷ contents) || b) none
    ∙ ap (λ b. b || false) ((passed signs (34 ∷ contents) other).0)
    ∙ or_end (has_null contents)
    ∙ sym (all_encoded_null contents) ∙ ap has_null (sym is)

pub raw_c_strings_have_values : RawCStringsHaveValues
raw_c_strings_have_values text (string, e, raw) =
    let (value, read) = raw_value string raw in
    let counted : has_misfit C text ≡ has_null value =
    ap (has_misfit C) e ∙ raw_counted string value read in (
      λ h. counted ∙ of_value text string value e (inr read) h,
      λ right. has_value text string value e (inr read) (sym counted ∙ right),
    )
