-- Texts and their characters.
use Rattle.std.proofs.Common.{◌≡◌, ◌∙◌, ℕ, zero, suc, ◌+◌, ◌-◌, ◌<◌, List, [], ◌∷◌, ◌++◌, length}
use Rattle.std.proofs.Common.{take, drop, get_or, sym, ap, length-append, arith, rules, tests, ◌≤◌}
use Rattle.std.proofs.Common.{refl}
use Rattle.std.specs.Str.{chars, IsUtf8, IsAscii, IsCharBoundary}
use Rattle.std.specs.Char.{is_ascii_graphic}
use Rattle.std.specs.Prelude.{◌==◌, Bool, encode_utf8_all, true, false, nat_le}
use Rattle.std.proofs.lemmas.Bool.{eqb-true, le-leb, false≢true, false_from_ne_true}
use Rattle.tok_lexical.proofs.Runs.{ascii_test, begins_as}
use Rattle.tok_lexical.specs.Private.Fronts.{begins_visibly, begins_beyond_ascii}
use Rattle.tok_lexical.specs.Widths.{width, is_group_mark}
use Rattle.tok_lexical.specs.declared.rule.Rule.{Rule}
use Rattle.std.proofs.lemmas.Str.{encodes-append, encodes-chars, chars-nil, chars-append}
use Rattle.std.proofs.lemmas.Str.{chars-IsAscii, byte_from_char, IsCharBoundary-at_seam}
use Rattle.std.proofs.lemmas.Str.{IsUtf8-take, IsUtf8-from_ascii}
use Rattle.std.proofs.lemmas.List.{nil_from_length, take_at, append_cancel_right}

-- the bytes of the front and of the rest
cut_bytes : (text rest front : List ℕ) → IsUtf8 text → IsUtf8 rest → chars text ≡ front
    ++ chars rest → text ≡ encode_utf8_all front ++ rest
cut_bytes text rest front u v e =
    cc (encodes-chars text u, encodes-append front (chars rest), encodes-chars rest v)

pub cut_length : (text rest front : List ℕ) → IsUtf8 text → IsUtf8 rest → chars text ≡ front
    ++ chars rest → length text ≡ length (encode_utf8_all front) + length rest
cut_length text rest front u v e =
    rw (← (cut_bytes text rest front u v e)) at (length-append (encode_utf8_all front) rest)

pub cut_boundary : (text rest front : List ℕ) → IsUtf8 text → IsUtf8 rest → chars text ≡ front
    ++ chars rest → IsCharBoundary text (length text - length rest)
cut_boundary text rest front u v e =
    let b = IsCharBoundary-at_seam text (encode_utf8_all front) rest
    (cut_bytes text rest front u v e) v in
    let l : length (encode_utf8_all front) ≡ length text - length rest =
    let k = cut_length text rest front u v e in omega arith in
    rw l at b

pub cut_front : (text rest front taken : List ℕ) → IsUtf8 text → IsUtf8 rest → chars text ≡ front
    ++ chars rest → taken ≡ take (length text - length rest) text → taken ≡ encode_utf8_all front
cut_front text rest front taken u v e t =
    let l : length (encode_utf8_all front) ≡ length text - length rest =
    let k = cut_length text rest front u v e in omega arith in
    let whole = cut_bytes text rest front u v e in
    cc (take_at (encode_utf8_all front) rest _ l)

pub cut_chars : (text rest front taken : List ℕ) → IsUtf8 text → IsUtf8 rest → chars text ≡ front
    ++ chars rest → taken ≡ take (length text - length rest) text → chars text ≡ chars taken
    ++ chars rest
cut_chars text rest front taken u v e t =
    let w : IsUtf8 taken =
    rw t (IsUtf8-take text (length text - length rest) u (cut_boundary text rest front u v e)) in
    let front_is = cut_front text rest front taken u v e t in
    let whole : text ≡ taken ++ rest = cc (cut_bytes text rest front u v e) in
    rw whole (chars-append taken rest w)

pub cut_len : (text rest front taken : List ℕ) → IsUtf8 text → IsUtf8 rest → chars text ≡ front
    ++ chars rest → length taken ≡ length text - length rest → length taken + length rest
    ≡ length text
cut_len text rest front taken u v e t = let k = cut_length text rest front u v e in omega arith

pub front_chars : (text rest front taken : List ℕ) → chars text ≡ front ++ chars rest →
    chars text ≡ chars taken ++ chars rest → chars taken ≡ front
front_chars text rest front taken e t = append_cancel_right (chars taken) front (chars rest)
    (sym t ∙ e)

pub width_plain : (rule : Rule) (bytes : List ℕ) → IsUtf8 bytes → is_group_mark rule ≡ false →
    length bytes ≡ width rule (chars bytes)
width_plain rule bytes u m = rw m (ap length (sym (encodes-chars bytes u)))

pub width_mark : (rule : Rule) (taken : List ℕ) → is_group_mark rule ≡ true → 0 ≡ width rule taken
width_mark rule taken m = rw m refl

ascii_one : (x : ℕ) → x < 128 → IsAscii (x ∷ [])
ascii_one x l zero = l
ascii_one x l (suc i) = omega arith

-- a text whose first byte is an ASCII character, and what follows it
pub ascii_first : (text rest : List ℕ) (c : ℕ) → IsUtf8 text → 0 < length text →
    c ≡ get_or text 0 0 → c < 128 → rest ≡ drop 1 text → chars text ≡ c ∷ chars rest
ascii_first [] rest c u l e m f = absurd (omega arith)
ascii_first (x ∷ tail) rest c u l e m f =
    let a : IsAscii (x ∷ []) = ascii_one x (rw e at m) in
    rw (e, f) (rw (chars-IsAscii (x ∷ []) a) at
    (chars-append (x ∷ []) tail (IsUtf8-from_ascii (x ∷ []) a)))

-- a text whose first byte is another
pub ascii_misses : (text : List ℕ) (c : ℕ) → IsUtf8 text → c < 128 → (get_or text 0 0 ≡ c → ⊥) →
    (more : List ℕ) → chars text ≡ c ∷ more → ⊥
ascii_misses text c u l other more e =
    other (byte_from_char text (encode_utf8_all more) c (cc (encodes-chars text u)) l)

-- nothing is left
pub nothing_begins : (text : List ℕ) → length text ≡ 0 → chars text ≡ []
nothing_begins text z = rw (nil_from_length text z) chars-nil

pub nothing_left : (text : List ℕ) → (length text == 0) ≡ true → chars text ≡ []
nothing_left text h = nothing_begins text (eqb-true (length text) 0 h)

-- some text is left
pub some_left : (text : List ℕ) → IsUtf8 text → (length text == 0) ≡ false → chars text ≡ [] → ⊥
some_left [] u h e = false≢true (sym h)
some_left (x ∷ text) u h e =
    let bytes : x ∷ text ≡ [] = sym (encodes-chars (x ∷ text) u) ∙ ap encode_utf8_all e in cc

pub nothing_first : (text : List ℕ) (c : ℕ) → length text ≡ 0 → (more : List ℕ) →
    chars text ≡ c ∷ more → ⊥
nothing_first text c z more e = cc (nothing_begins text z)

visible_low : (x : ℕ) → is_ascii_graphic x ≡ true → x < 128
visible_low x h = let l : x ≤ 126 = search (rules, tests) in omega arith

pub visible_first : (text : List ℕ) (x : ℕ) → IsUtf8 text → 0 < length text →
    x ≡ get_or text 0 0 → is_ascii_graphic x ≡ begins_visibly (chars text)
visible_first =
    begins_as is_ascii_graphic (ascii_test is_ascii_graphic visible_low) begins_visibly refl
    (λ c rest. refl)

pub nothing_visible : (text : List ℕ) → length text ≡ 0 → begins_visibly (chars text) ≡ false
nothing_visible text z = rw (nothing_begins text z) refl

pub beyond_first : (text : List ℕ) (x : ℕ) → IsUtf8 text → 0 < length text →
    x ≡ get_or text 0 0 → nat_le 128 x ≡ begins_beyond_ascii (chars text)
beyond_first =
    begins_as (nat_le 128) (λ x h. le-leb 128 x h) begins_beyond_ascii refl (λ c rest. refl)

pub nothing_beyond : (text : List ℕ) → length text ≡ 0 → begins_beyond_ascii (chars text) ≡ false
nothing_beyond text z = rw (nothing_begins text z) refl

-- a test of the first byte that only ASCII passes says the same of the first character
module _ (is : ℕ → Bool) (low : (c : ℕ) → is c ≡ true → c < 128) where
  pub beyond_fails : (x : ℕ) → (x < 128 → ⊥) → is x ≡ false
  beyond_fails x beyond = false_from_ne_true (is x) (λ h. beyond (low x h))

  -- a text that begins with no ASCII character
  pub none_begins : (begins : List ℕ → Bool) → begins [] ≡ false →
      ((c : ℕ) (rest : List ℕ) → begins (c ∷ rest) ≡ is c) → (text : List ℕ) →
      ((c : ℕ) (more : List ℕ) → c < 128 → text ≡ c ∷ more → ⊥) → false ≡ begins text
  none_begins begins none first [] absent = sym none
  none_begins begins none first (c ∷ rest) absent =
      sym (first c rest ∙ beyond_fails c (λ l. absent c rest l refl))
