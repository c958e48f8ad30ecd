-- Line feeds, counted and found: in the bytes of a text as in its characters.
use Rattle.std.proofs.Common.{◌≡◌, ◌∙◌, ℕ, ◌+◌, ◌<◌, ◌⊎◌, List, [], ◌∷◌, ◌++◌, length, drop, take, length-drop}
use Rattle.std.proofs.Common.{Bool, true, false, All, cond, count_by, get_or, inl, inr, refl, sym, ap, arith}
use Rattle.std.specs.Prelude.{not, encode_utf8, encode_utf8_all}
use Rattle.std.specs.List.{list_all}
use Rattle.std.specs.Str.{chars, IsCharBoundary, IsUtf8}
use Rattle.std.proofs.lemmas.Bool.{cases_Bool, cases_eq, ne_eqb, not-true, eqb-true, eq-eqb}
use Rattle.std.proofs.lemmas.List.{append-nil, drop_more, get_or-drop, get_or-take, take-append-drop}
use Rattle.std.proofs.lemmas.List.Elements.{All-from_get_or}
use Rattle.std.proofs.lemmas.List.Recursion.{is_count_by}
use Rattle.std.proofs.lemmas.List.Sums.{AllPass-from_list_all, get_or-le-sum_by, list_all-from_AllPass}
use Rattle.std.proofs.lemmas.List.Sums.{sum_by-append, sum_by-le}
use Rattle.std.proofs.lemmas.Str.{chars-append, chars_past_char, encode_ascii, encodes-chars, inside_one}
use Rattle.std.proofs.lemmas.Str.{IsCharBoundary-after_ascii, IsCharBoundary-before_ascii}
use Rattle.std.proofs.lemmas.Str.{IsCharBoundary-start, IsUtf8-drop, IsUtf8-take}
use Rattle.memchr.specs.Find.{NoneAfter, Nowhere, Passes, is_byte}
use Rattle.tok_lexical.specs.Comments.{is_not_line_feed}
use Rattle.tok_carets.specs.Lines.{BeginsLine, IsLastLine, IsLineStart, line_feeds}

module _ {X : Type 0} (p : X → Bool) where
  -- what a list adds of an element
  abbrev pub one : X → ℕ
  one x = cond (p x) 1 0

  -- what fails the test isn't counted
  pub none_counted : (xs : List X) → All (λ x. p x ≡ false) xs → count_by p xs ≡ 0
  none_counted xs fails =
      omega (arith, sum_by-le one 0 xs (λ k d low. rw (fails k d low) (omega arith)))

  -- and nothing that isn't counted passes it
  pub all_fail : (xs : List X) → count_by p xs ≡ 0 → All (λ x. p x ≡ false) xs
  all_fail xs none k d low = elim (cases_Bool (p (get_or xs k d))) [
    | inl holds ↦
        let counted = rw holds at (get_or-le-sum_by one xs k d low) in
        absurd (omega arith)
    | inr fails ↦ fails
  ]

one_counted : (c : ℕ) → line_feeds (encode_utf8 c) ≡ cond (is_byte 10 c) 1 0
one_counted c = elim (cases_eq c 10) [
  | inl feed ↦ rw feed (ap line_feeds (encode_ascii 10 (omega arith)))
  | inr other ↦
      let bytes = encode_utf8 c in
      rw (ne_eqb c 10 other) (none_counted (is_byte 10) bytes
      (All-from_get_or (λ x. is_byte 10 x ≡ false) bytes 0
      (λ k low. ne_eqb _ 10 (λ is. other
      (inside_one c [] bytes k (sym (append-nil bytes)) low (omega arith) ∙ is)))))
]

-- the line feeds of characters are as many as those of their bytes
feeds_encoded : (cs : List ℕ) → line_feeds (encode_utf8_all cs) ≡ line_feeds cs
feeds_encoded =
    is_count_by (λ cs. line_feeds (encode_utf8_all cs)) (is_byte 10) refl
    (λ c cs.
    sum_by-append (one (is_byte 10)) (encode_utf8 c) (encode_utf8_all cs)
    ∙ ap (λ n. n + line_feeds (encode_utf8_all cs)) (one_counted c)
    ∙ either (is_byte 10 c) (line_feeds (encode_utf8_all cs)))
  where
    either : (b : Bool) (n : ℕ) → cond b 1 0 + n ≡ cond b (1 + n) n
    either true n = refl
    either false n = omega arith

pub feeds_in_bytes : (text : List ℕ) → IsUtf8 text → line_feeds text ≡ line_feeds (chars text)
feeds_in_bytes text u = ap line_feeds (sym (encodes-chars text u)) ∙ feeds_encoded (chars text)

-- characters without a line feed
pub none_fed : (cs : List ℕ) → list_all is_not_line_feed cs ≡ true → line_feeds cs ≡ 0
none_fed cs clear =
    none_counted (is_byte 10) cs
    (λ k d low. not-true _ (AllPass-from_list_all is_not_line_feed cs clear k d low))

-- bytes without a line feed
pub clear_of : (text : List ℕ) → IsUtf8 text → Nowhere (Passes (is_byte 10) text) 0 (length text)
    → list_all is_not_line_feed (chars text) ≡ true
clear_of text u none =
    let bytes = none_counted (is_byte 10) text
    (All-from_get_or (λ x. is_byte 10 x ≡ false) text 0
    (λ k low. ne_eqb _ 10 (λ is. none k (omega arith) low (eq-eqb _ 10 is)))) in
    let fails = all_fail (is_byte 10) (chars text) (sym (feeds_in_bytes text u) ∙ bytes) in
    list_all-from_AllPass is_not_line_feed (chars text) (λ k d low. ap not (fails k d low))

-- the start of the last line of a text
module _ (text : List ℕ) (u : IsUtf8 text) (start : ℕ) (line : IsLineStart text (length text) start)
  where
    after_feed : (feed : ℕ) → start ≡ feed + 1 → Passes (is_byte 10) text feed
        → IsCharBoundary text (feed + 1)
    after_feed feed next is =
        let here = eqb-true (get_or text feed 0) 10 is in
        IsCharBoundary-after_ascii text feed u (omega (arith, line.low)) (omega arith)

    -- the text may be cut there
    pub cut_there : IsCharBoundary text start
    cut_there = go line.begins where
      go : BeginsLine text start → IsCharBoundary text start
      go (inl first) = rw first (IsCharBoundary-start text u)
      go (inr (feed, next, is)) = rw next (after_feed feed next is)

    -- from there on it is the last line
    pub last_from : IsLastLine (chars text) (chars (drop start text))
    last_from = (clear, go line.begins) where
      clear : list_all is_not_line_feed (chars (drop start text)) ≡ true
      clear =
          clear_of (drop start text) (IsUtf8-drop text start u cut_there)
          (λ k low high is. line.unbroken (start + k) (omega arith)
          (omega (arith, length-drop start text))
          (ap (is_byte 10) (sym (get_or-drop start text k 0)) ∙ is))

      go : BeginsLine text start → (chars text ≡ chars (drop start text))
          ⊎ ((front : List ℕ) × (chars text ≡ front ++ 10 ∷ chars (drop start text)))
      go (inl first) = inl (rw first refl)
      go (inr (feed, next, is)) =
          let here = eqb-true (get_or text feed 0) 10 is in
          let high : feed < length text = omega (arith, line.low) in
          let at = IsCharBoundary-before_ascii text feed high (omega arith) in
          let cut : drop feed text ≡ 10 ∷ drop start text = drop_more text feed 0 high
          ∙ ap (λ x. x ∷ drop (feed + 1) text) here ∙ ap (λ n. 10 ∷ drop n text) (sym next) in
          let after = chars_past_char (drop feed text) (drop start text) 10
          (IsUtf8-drop text feed u at)
          (cut ∙ ap (λ bs. bs ++ drop start text) (sym (encode_ascii 10 (omega arith)))) in
          inr (
            chars (take feed text),
            ap chars (sym (take-append-drop feed text))
                ∙ chars-append (take feed text) (drop feed text) (IsUtf8-take text feed u at)
                ∙ ap (λ cs. chars (take feed text) ++ cs) after,
          )

-- the start of a line in a text is one in each front that has it
pub in_front : (text before : List ℕ) (start : ℕ) → before ≡ take (length before) text
    → IsLineStart text (length before) start → IsLineStart before (length before) start
in_front text before start front line =
    record { low = line.low; begins = go line.begins; unbroken = unbroken }
  where
    same : (k : ℕ) → k < length before → get_or before k 0 ≡ get_or text k 0
    same k high = ap (λ xs. get_or xs k 0) front ∙ get_or-take (length before) text k 0 high

    unbroken : Nowhere (Passes (is_byte 10) before) start (length before)
    unbroken k low high is = line.unbroken k low high (ap (is_byte 10) (sym (same k high)) ∙ is)

    go : BeginsLine text start → BeginsLine before start
    go (inl first) = inl first
    go (inr (feed, next, is)) =
        inr (feed, next, ap (is_byte 10) (same feed (omega (arith, line.low))) ∙ is)

-- the last line starts after the last line feed
pub after_last : (text : List ℕ) (at : ℕ)
    → NoneAfter (Passes (is_byte 10) text) 0 (length text) at × Passes (is_byte 10) text at
    → IsLineStart text (length text) (at + 1)
after_last text at (last, is) =
    record { low = omega (arith, last.high); begins = inr (at, refl, is); unbroken = last.after }
