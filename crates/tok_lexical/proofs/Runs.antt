-- A run of bytes that pass a test of ASCII is one of characters.
use Rattle.std.proofs.Common.{◌≡◌, ◌∙◌, ℕ, zero, suc, ◌+◌, ◌<◌, ◌≤◌, List, [], ◌∷◌, ◌++◌, length}
use Rattle.std.proofs.Common.{refl, sym, ap, arith, Bool, true, false, inl, inr}
use Rattle.std.proofs.Common.{get_or, take, drop, length-append}
use Rattle.std.specs.Prelude.{encode_utf8, encode_utf8_all}
use Rattle.std.specs.List.{list_all}
use Rattle.std.specs.Str.{chars, IsUtf8, IsCharBoundary}
use Rattle.std.proofs.lemmas.Bool.{false≢true, false_from_ne_true, cases_lt}
use Rattle.std.proofs.lemmas.List.{get_or-take, take-append-drop, get_or-drop, get_or-append-add}
use Rattle.std.proofs.lemmas.Str.{byte_from_char, char_from_byte, encodes-chars, chars-append}
use Rattle.std.proofs.lemmas.Str.{length-encode, len_utf8_bounds, IsUtf8-take, IsUtf8-drop}
use Rattle.std.proofs.lemmas.Str.{IsCharBoundary-start, IsCharBoundary-end}
use Rattle.std.proofs.lemmas.Str.{IsCharBoundary-after_ascii, IsCharBoundary-before_ascii}
use Rattle.tok_lexical.specs.Pieces.{Skips, Stops}
use Rattle.tok_lexical.specs.Scans.{IsAsciiTest}
use Rattle.tok_lexical.specs.Private.Fronts.{begins_passing}
use Rattle.tok_lexical.specs.Private.Scans.{IsRun}

-- a test that only ASCII passes
pub ascii_test : (pass : ℕ → Bool) → ((x : ℕ) → pass x ≡ true → x < 128) → IsAsciiTest pass
ascii_test pass low x high = beyond x high ∙ sym (beyond 128 (omega arith))
  where
    beyond : (y : ℕ) → 128 ≤ y → pass y ≡ false
    beyond y h = false_from_ne_true (pass y) (λ p. absurd (omega (arith, low y p)))

module _ (pass : ℕ → Bool) (ascii : IsAsciiTest pass) where
  -- a byte that is told from those beyond ASCII is ASCII
  told_low : (x : ℕ) (here beyond : Bool) → pass x ≡ here → pass 128 ≡ beyond →
      (here ≡ beyond → ⊥) → x < 128
  told_low x here beyond e f apart = elim (cases_lt x 128) [
    | inl low ↦ low
    | inr high ↦ absurd (apart (cc (ascii x high)))
  ]

  -- the first byte of a character passes just if the character does
  first_byte : (text rest : List ℕ) (c : ℕ) → text ≡ encode_utf8 c ++ rest → 0 < length text →
      pass (get_or text 0 0) ≡ pass c
  first_byte text rest c e some = elim (cases_lt c 128) [
    | inl low ↦ ap pass (byte_from_char text rest c e low)
    | inr high ↦ elim (cases_lt (get_or text 0 0) 128) [
      | inl low ↦ ap pass (sym (char_from_byte text rest c e low some))
      | inr beyond ↦ cc (ascii (get_or text 0 0) beyond, ascii c high)
    ]
  ]

  -- each byte before n passes
  abbrev AllBefore : List ℕ → ℕ → Type 0
  AllBefore bytes n = (k : ℕ) → k < n → pass (get_or bytes k 0) ≡ true

  all_pass : (cs : List ℕ) → AllBefore (encode_utf8_all cs) (length (encode_utf8_all cs)) →
      list_all pass cs ≡ true
  all_pass [] all = refl
  all_pass (c ∷ cs) all =
      let rest = encode_utf8_all cs in
      let l = length-append (encode_utf8 c) rest in
      let w = length-encode c in
      let b = (len_utf8_bounds c).0 in
      let some : 0 < length (encode_utf8 c ++ rest) = omega arith in
      let here : pass c ≡ true =
      sym (first_byte (encode_utf8 c ++ rest) rest c refl some) ∙ all 0 some in
      rw here
      (all_pass cs (λ k h. ap pass (sym (get_or-append-add (encode_utf8 c) rest k 0))
      ∙ all (length (encode_utf8 c) + k) (omega arith)))

  stops_here : (cs rest : List ℕ) → encode_utf8_all cs ≡ rest →
      (0 < length rest → pass (get_or rest 0 0) ≡ false) → Stops pass cs
  stops_here [] rest e h = tt
  stops_here (c ∷ cs) rest e h =
      let some : 0 < length rest = let l = ap length e in
      let m = length-append (encode_utf8 c) (encode_utf8_all cs) in
      let w = length-encode c in let b = (len_utf8_bounds c).0 in omega arith in
      sym (first_byte rest (encode_utf8_all cs) c (sym e) some) ∙ h some

  pub run_boundary : (text : List ℕ) (n : ℕ) → IsUtf8 text → IsRun pass text 0 (length text) n →
      IsCharBoundary text n
  run_boundary text n u run = elim (cases_lt n (length text)) [
    | inl short ↦ inside (pass 128) refl n short (λ k h. run.pass k (omega arith) (omega arith))
        (run.stops short)
    | inr whole ↦ let same : n ≡ length text = omega (arith, run.few) in
        rw same (IsCharBoundary-end text)
  ]
    where
      inside : (beyond : Bool) → pass 128 ≡ beyond → (n : ℕ) → n < length text →
          AllBefore text n → pass (get_or text (0 + n) 0) ≡ false → IsCharBoundary text n
      inside true e n short all stop =
          let same : 0 + n ≡ n = omega arith in
          IsCharBoundary-before_ascii text n short
          (told_low (get_or text n 0) false true (rw same at stop) e (λ d. false≢true d))
      inside false e zero short all stop = IsCharBoundary-start text u
      inside false e (suc k) short all stop =
          let next : k + 1 ≡ suc k = omega arith in
          rw (← next) (IsCharBoundary-after_ascii text k u (omega arith)
          (told_low (get_or text k 0) true false (all k (omega arith)) e
          (λ d. false≢true (sym d))))

  -- a text cut where a run of its bytes ends
  pub skips_run : (text front rest : List ℕ) (n : ℕ) → IsUtf8 text → front ≡ take n text →
      rest ≡ drop n text → length front ≡ n → length rest + n ≡ length text →
      IsRun pass text 0 (length text) n → Skips pass (chars text) (chars front) (chars rest)
  skips_run text front rest n u f r l m run =
      let cut = run_boundary text n u run in
      let v : IsUtf8 front = rw f (IsUtf8-take text n u cut) in
      let w : IsUtf8 rest = rw r (IsUtf8-drop text n u cut) in
      let whole : text ≡ front ++ rest = cc (take-append-drop n text) in
      let before : AllBefore front (length front) = λ k h.
      ap (λ xs. pass (get_or xs k 0)) f ∙ ap pass (get_or-take n text k 0 (omega arith))
      ∙ run.pass k (omega arith) (omega arith) in
      let same : n + 0 ≡ 0 + n = omega arith in
      let here : get_or rest 0 0 ≡ get_or text (0 + n) 0 = ap (λ x. get_or x 0 0) r
      ∙ get_or-drop n text 0 0 ∙ ap (λ i. get_or text i 0) same in
      record {
        cut = rw whole (chars-append front rest v);
        pass = all_pass (chars front)
            (rw (encodes-chars front v) before);
        stops = stops_here (chars rest) rest (encodes-chars rest w)
            (λ some. ap pass here ∙ run.stops (omega arith));
      }

  -- and one whose first character fails
  pub skips_nothing : (text : List ℕ) → begins_passing pass text ≡ false → Skips pass text [] text
  skips_nothing text none = record { cut = refl; pass = refl; stops = stops text none }
    where
      stops : (cs : List ℕ) → begins_passing pass cs ≡ false → Stops pass cs
      stops [] h = tt
      stops (c ∷ cs) h = h

  -- which its first byte tells
  pub begins_as : (begins : List ℕ → Bool) → begins [] ≡ false →
      ((c : ℕ) (rest : List ℕ) → begins (c ∷ rest) ≡ pass c) → (text : List ℕ) (x : ℕ) →
      IsUtf8 text → 0 < length text → x ≡ get_or text 0 0 → pass x ≡ begins (chars text)
  begins_as begins none first text x u some e = rw e (go (chars text) (encodes-chars text u))
    where
      go : (cs : List ℕ) → encode_utf8_all cs ≡ text → pass (get_or text 0 0) ≡ begins cs
      go [] f = absurd (let l = ap length f in omega arith)
      go (c ∷ cs) f = rw (first c cs) (first_byte text (encode_utf8_all cs) c (sym f) some)

  pub passes_first : (text : List ℕ) → IsUtf8 text → 0 < length text →
      pass (get_or text 0 0) ≡ begins_passing pass (chars text)
  passes_first text u some =
      begins_as (begins_passing pass) refl (λ c rest. refl) text (get_or text 0 0) u some refl
