-- The literal of a doc comment's text is read as one string literal, and its value is the text.
use Rattle.std.proofs.Common.{◌≡◌, ◌∙◌, ℕ, ◌+◌, ◌*◌, ◌<◌, ◌≤◌, List, [], ◌∷◌, ◌++◌, Some, Bool}
use Rattle.std.proofs.Common.{true, false, refl, ap, arith, append_assoc, length, count_by}
use Rattle.std.specs.Prelude.{◌==◌, ◌/◌, ◌%◌, encode_utf8_all, fold, if◌then◌else◌, map, nat_lt}
use Rattle.std.specs.Char.{digit_char, digit_value, is_digit}
use Rattle.std.specs.Char.Escape.{escape_unicode}
use Rattle.std.specs.List.{list_all}
use Rattle.std.specs.Str.{IsUtf8, chars}
use lib.Utf8.{scalar, scalars}
use Rattle.std.proofs.lemmas.Bool.{agree_below_at, and_from, and_parts, cond_both, eqb-true}
use Rattle.std.proofs.lemmas.Bool.{ltb-true}
use Rattle.std.proofs.lemmas.Bool.Decides.{nat_tests}
use Rattle.std.proofs.lemmas.List.{length-map}
use Rattle.std.proofs.lemmas.List.Sums.{count_by-le-length}
use Rattle.tok_lexical.specs.Numbers.{is_digit_or_underscore}
use Rattle.tok_lexical.specs.Pieces.{is_neither}
use Rattle.tok_lexical.specs.Strings.{IsUnit, code, escape, is_hex, is_hex_or_underscore}
use Rattle.tok_lexical.specs.declared.contents.Contents.TheVariants.{Text}
use Rattle.tok_lexical.specs.declared.rule.Mode.{Mode}
use Rattle.tok_lexical.specs.declared.rule.Rule.TheVariants.{QuotedString}
use Rattle.tok_leaves.specs.Quoting.{is_unseen, shown, shown_in_quotes}
use Rattle.tok_values.specs.Escapes.{and_rest, named_char}
use Rattle.tok_values.specs.Escapes as escapes
use Rattle.tok_values.specs.Laws.{IsOnePiece}
use Rattle.tok_values.specs.Numbers.{is_digits, number}
use Rattle.tok_values.specs.Strings.{IsStringValue, alone, unit}
use Rattle.tok_values.proofs.Codes.{code_closed}
use Rattle.tok_values.proofs.Digits.{step}
use Rattle.tok_values.proofs.Quoted.{encodes_escape, one_scalars, unit_is, written}
use Rattle.tok_values.proofs.Read.{written_kept, written_unit}
use Rattle.tok_values.proofs.Written.{IsWriting, NoReturn, both_kept, is_read, keeps_text}

-- numbers that a hexadecimal digit stands for
abbrev AreLow : List ℕ → Type 0
AreLow [] = Unit {0}
AreLow (v ∷ vs) = (v < 16) × AreLow vs

-- what these digits write
abbrev worth : ℕ → List ℕ → ℕ
worth n vs = fold (λ m v. m * 16 + v) n vs

glyph_digit : (v : ℕ) → v < 16 → is_digit (digit_char v) 16 ≡ true
glyph_digit v h = agree_below_at (λ d. is_digit (digit_char d) 16) (λ _. true) 16 v refl h

glyph_passes : (v : ℕ) → v < 16 → is_digit_or_underscore 16 (digit_char v) ≡ true
glyph_passes v h =
    agree_below_at (λ d. is_digit_or_underscore 16 (digit_char d)) (λ _. true) 16 v refl h

glyph_value : (v : ℕ) → v < 16 → digit_value (digit_char v) ≡ v
glyph_value v h =
    eqb-true _ _ (agree_below_at (λ d. digit_value (digit_char d) == d) (λ _. true) 16 v refl h)

glyph_open : (v : ℕ) → v < 16 → is_neither 125 125 (digit_char v) ≡ true
glyph_open v h = agree_below_at (λ d. is_neither 125 125 (digit_char d)) (λ _. true) 16 v refl h

glyph_kept : (v : ℕ) → v < 16 → (digit_char v == 13) ≡ false
glyph_kept v h = agree_below_at (λ d. digit_char d == 13) (λ _. false) 16 v refl h

glyph_scalar : (v : ℕ) → v < 16 → scalar (digit_char v) ≡ true
glyph_scalar v h = agree_below_at (λ d. scalar (digit_char d)) (λ _. true) 16 v refl h

-- a test that each digit passes
digits_pass : (p : ℕ → Bool) → ((v : ℕ) → v < 16 → p (digit_char v) ≡ true) → (vs : List ℕ) →
    AreLow vs → list_all p (map digit_char vs) ≡ true
digits_pass p one [] h = refl
digits_pass p one (v ∷ vs) h = and_from _ _ (one v h.0) (digits_pass p one vs h.1)

number_is : (vs : List ℕ) (n : ℕ) → AreLow vs → fold (step 16) n (map digit_char vs) ≡ worth n vs
number_is [] n h = refl
number_is (v ∷ vs) n h = cc (glyph_digit v h.0, glyph_value v h.0, number_is vs (n * 16 + v) h.1)

kept_digits : (vs : List ℕ) → AreLow vs → NoReturn (map digit_char vs)
kept_digits [] h = refl
kept_digits (v ∷ vs) h = simp (glyph_kept v h.0) (kept_digits vs h.1)

scalar_digits : (vs rest : List ℕ) → AreLow vs → scalars rest ≡ true →
    scalars (map digit_char vs ++ rest) ≡ true
scalar_digits [] rest h r = r
scalar_digits (v ∷ vs) rest h r = and_from _ _ (glyph_scalar v h.0) (scalar_digits vs rest h.1 r)

-- the code of a character, in one to six digits
record IsCodeOf (c : ℕ) (text : List ℕ) : Type 0 where
  pub first : ℕ
  pub more : List ℕ
  pub is : text ≡ 92 ∷ 117 ∷ 123 ∷ (map digit_char (first ∷ more) ++ 125 ∷ [])
  pub low : AreLow (first ∷ more)
  pub names : worth 0 (first ∷ more) ≡ c
  pub few : length more ≤ 5

code_from : (c first : ℕ) (more text : List ℕ) →
    text ≡ 92 ∷ 117 ∷ 123 ∷ (map digit_char (first ∷ more) ++ 125 ∷ []) →
    AreLow (first ∷ more) → worth 0 (first ∷ more) ≡ c → length more ≤ 5 → IsCodeOf c text
code_from c first more text is low names few =
    record { first = first; more = more; is = is; low = low; names = names; few = few }

code_of : (c : ℕ) → c < 0x11_0000 → IsCodeOf c (escape_unicode c)
code_of c h =
    cond_both (nat_lt c 0x10) _ _ (IsCodeOf c) (λ e. let l = ltb-true c 0x10 e in
    code_from c (c / 1 % 16) [] _ refl (omega arith) (omega arith) (omega arith))
    (λ _. cond_both (nat_lt c 0x100) _ _ (IsCodeOf c) (λ e. let l = ltb-true c 0x100 e in
    code_from c (c / 0x10 % 16) (c / 1 % 16 ∷ []) _ refl (omega arith) (omega arith) (omega arith))
    (λ _. cond_both (nat_lt c 0x1000) _ _ (IsCodeOf c) (λ e. let l = ltb-true c 0x1000 e in
    code_from c (c / 0x100 % 16) (c / 0x10 % 16 ∷ c / 1 % 16 ∷ []) _ refl (omega arith)
    (omega arith) (omega arith))
    (λ _. cond_both (nat_lt c 0x1_0000) _ _ (IsCodeOf c) (λ e. let l = ltb-true c 0x1_0000 e in
    code_from c (c / 0x1000 % 16) (c / 0x100 % 16 ∷ c / 0x10 % 16 ∷ c / 1 % 16 ∷ []) _ refl
    (omega arith) (omega arith) (omega arith))
    (λ _. cond_both (nat_lt c 0x10_0000) _ _ (IsCodeOf c) (λ e. let l = ltb-true c 0x10_0000 e in
    code_from c (c / 0x1_0000 % 16)
    (c / 0x1000 % 16 ∷ c / 0x100 % 16 ∷ c / 0x10 % 16 ∷ c / 1 % 16 ∷ []) _ refl (omega arith)
    (omega arith) (omega arith))
    (λ _. code_from c (c / 0x10_0000 % 16)
    (c / 0x1_0000 % 16 ∷ c / 0x1000 % 16 ∷ c / 0x100 % 16 ∷ c / 0x10 % 16 ∷ c / 1 % 16 ∷ []) _ refl
    (omega arith) (omega arith) (omega arith))))))

-- what a code means, and that it is read
module _ (c : ℕ) (text : List ℕ) (s : scalar c ≡ true) (w : IsCodeOf c text) where
  -- the digits as characters
  abbrev digits : List ℕ
  digits = map digit_char (w.first ∷ w.more)

  value : number 16 digits ≡ c
  value = number_is (w.first ∷ w.more) 0 w.low ∙ w.names

  are_digits : is_digits 16 digits ≡ true
  are_digits =
      let first = glyph_digit w.first w.low.0 in
      and_from _ _ (cc) (digits_pass (is_digit_or_underscore 16) glyph_passes (w.first ∷ w.more)
      w.low)

  named : named_char digits ≡ Some c
  named = simp (are_digits, value, s)

  code_found : (rest : List ℕ) → escapes.code (123 ∷ (digits ++ 125 ∷ rest)) ≡ Some (c, rest)
  code_found rest =
      code_closed (123 ∷ (digits ++ 125 ∷ rest)) (digits ++ 125 ∷ rest) digits (125 ∷ rest) refl
      (record {
        cut = refl;
        pass = digits_pass (is_neither 125 125) glyph_open (w.first ∷ w.more) w.low;
        stops = refl;
      }) rest refl
      ∙ ap (λ o. and_rest o rest) named

  code_means : (rest : List ℕ) → unit false (text ++ rest) ≡ Some (c ∷ [], rest)
  code_means rest =
      rw w.is (ap (λ t. unit false (92 ∷ 117 ∷ 123 ∷ t)) (append_assoc digits (125 ∷ []) rest)
      ∙ ap alone (code_found rest))

  code_unit : IsUnit Text text
  code_unit =
      let few : count_by is_hex digits ≤ 6 =
      let size = length-map (w.first ∷ w.more) digit_char in
      omega (arith, count_by-le-length is_hex digits, size, w.few) in
      rw w.is (escape (code refl (
        digit_char w.first,
        map digit_char w.more,
        refl,
        glyph_digit w.first w.low.0,
        digits_pass is_hex_or_underscore glyph_passes w.more w.low.1,
        record { few = few; scalar = rw value s },
      )))

  code_scalar : scalars text ≡ true
  code_scalar = rw w.is (scalar_digits (w.first ∷ w.more) (125 ∷ []) w.low refl)

  code_kept : NoReturn text
  code_kept = rw w.is (both_kept digits (125 ∷ []) (kept_digits (w.first ∷ w.more) w.low) refl)

-- a character, the escape that stands for it, or its code
abbrev shown_chars : ℕ → List ℕ
shown_chars c = if is_unseen c then escape_unicode c else written c

scalar_low : (c : ℕ) → scalar c ≡ true → c < 0x11_0000
scalar_low c h = grind (arith, nat_tests)

scalar_code : (c : ℕ) → scalars (c ∷ []) ≡ true → (scalar c ≡ true) × IsCodeOf c (escape_unicode c)
scalar_code c h =
    let s = (and_parts (scalar c) true h).0 in
    (s, code_of c (scalar_low c s))

encoded_either : (b : Bool) (x y v : List ℕ) → encode_utf8_all y ≡ v →
    encode_utf8_all (if b then x else y) ≡ (if b then encode_utf8_all x else v)
encoded_either true x y v e = refl
encoded_either false x y v e = e

doc_comments : IsWriting shown_chars shown
doc_comments = record {
  encoded = λ c. encoded_either (is_unseen c) _ _ _ (encodes_escape c);
  scalar = λ c h. let code = scalar_code c h in
      cond_both (is_unseen c) _ _ (λ t. scalars t ≡ true)
      (λ _. code_scalar c _ code.0 code.1) (λ _. one_scalars c h);
  means = λ c rest h. let code = scalar_code c h in
      cond_both (is_unseen c) _ _ (λ t. unit false (t ++ rest) ≡ Some (c ∷ [], rest))
      (λ _. code_means c _ code.0 code.1 rest) (λ _. unit_is c rest);
  is_unit = λ c h. let code = scalar_code c h in
      cond_both (is_unseen c) _ _ (IsUnit Text) (λ _. code_unit c _ code.0 code.1)
      (λ _. written_unit c);
  kept = λ c h. let code = scalar_code c h in
      cond_both (is_unseen c) _ _ NoReturn (λ _. code_kept c _ code.0 code.1)
      (λ _. written_kept c);
}

pub doc_comments_are_read : (mode : Mode) (text : List ℕ) → IsUtf8 text →
    let literal = chars (shown_in_quotes (chars text)) in
    IsOnePiece mode (QuotedString Text) literal × IsStringValue literal text
doc_comments_are_read mode text u = (
  is_read shown_chars shown doc_comments mode text u,
  keeps_text shown_chars shown doc_comments text u,
)
