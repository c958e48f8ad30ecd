-- The text of a made character literal is read as one, and its value is the character.
use Rattle.std.proofs.Common.{◌≡◌, ◌∙◌, ℕ, List, [], ◌∷◌, ◌++◌, Some, Bool, true, false, refl}
use Rattle.std.proofs.Common.{sym, ap, inl, inr, eqb-true, arith}
use Rattle.std.specs.Prelude.{◌==◌, if◌then◌else◌, codes, encode_utf8_all}
use Rattle.std.specs.Char.{IsScalar}
use Rattle.std.specs.Str.{chars}
use lib.Utf8.{scalars}
use Rattle.std.proofs.lemmas.Bool.{and_from, cond_both, eqb-false, false≢true}
use Rattle.std.proofs.lemmas.Str.{chars-encodes, encodes-append}
use Rattle.tok_lexical.specs.Fits.{here, later}
use Rattle.tok_lexical.specs.Pieces.{HasPrefix}
use Rattle.tok_lexical.specs.Rules.{Spells}
use Rattle.tok_lexical.specs.Strings.{IsEscape, is_char, simple}
use Rattle.tok_lexical.specs.declared.rule.Mode.{Mode}
use Rattle.tok_lexical.specs.declared.rule.Rule.TheVariants.{BadEscapedChar, EscapedChar, PlainChar}
use Rattle.tok_lexical.specs.declared.start.Start.TheVariants as start
use Rattle.tok_lexical.proofs.First.{decides_begun}
use Rattle.tok_leaves.specs.Quoting.{in_apostrophes}
use Rattle.tok_values.specs.Laws.{IsOneChar}
use Rattle.tok_values.specs.Strings.{IsCharValue, one_char}
use Rattle.tok_values.proofs.Quoted.{encodes_escape, one_byte, one_scalars, scalars-append, two}
use Rattle.tok_values.proofs.Quoted.{written, written_cases}
use Rattle.tok_values.proofs.Written.{whole}

-- what is between the apostrophes
abbrev between : ℕ → List ℕ
between c = if c == 39 then 92 ∷ 39 ∷ [] else if c == 34 then 34 ∷ [] else written c

apostrophe_bytes : encode_utf8_all (39 ∷ []) ≡ codes "'"
apostrophe_bytes = one_byte 39 (omega arith)

-- what is encoded between apostrophes
around : (x u : List ℕ) → encode_utf8_all x ≡ u →
    encode_utf8_all (39 ∷ (x ++ 39 ∷ [])) ≡ codes "'" ++ (u ++ codes "'")
around x u e =
    cc (encodes-append (39 ∷ []) (x ++ 39 ∷ []), apostrophe_bytes, encodes-append x (39 ∷ []))

pick_bytes : (b : Bool) (x y u v : List ℕ) → encode_utf8_all (39 ∷ (x ++ 39 ∷ [])) ≡ u →
    encode_utf8_all (39 ∷ (y ++ 39 ∷ [])) ≡ v →
    encode_utf8_all (39 ∷ ((if b then x else y) ++ 39 ∷ [])) ≡ (if b then u else v)
pick_bytes true x y u v e f = e
pick_bytes false x y u v e f = f

encoded : (c : ℕ) → encode_utf8_all (39 ∷ (between c ++ 39 ∷ [])) ≡ in_apostrophes c
encoded c =
    pick_bytes (c == 39) _ _ _ _ (around (92 ∷ 39 ∷ []) _ (two 92 39 (omega arith) (omega arith)))
    (pick_bytes (c == 34) _ _ _ _ (around (34 ∷ []) _ (one_byte 34 (omega arith)))
    (around (written c) _ (encodes_escape c)))

between_scalars : (c : ℕ) → scalars (c ∷ []) ≡ true → scalars (between c) ≡ true
between_scalars c h =
    cond_both (c == 39) _ _ (λ w. scalars w ≡ true) (λ _. refl)
    (λ _. cond_both (c == 34) _ _ (λ w. scalars w ≡ true) (λ _. refl) (λ _. one_scalars c h))

chars_between : (c : ℕ) → IsScalar c → chars (in_apostrophes c) ≡ 39 ∷ (between c ++ 39 ∷ [])
chars_between c h =
    let one : scalars (c ∷ []) ≡ true = and_from _ true h refl in
    ap chars (sym (encoded c))
    ∙ chars-encodes (39 ∷ (between c ++ 39 ∷ []))
    (scalars-append (39 ∷ []) (between c ++ 39 ∷ []) refl
    (scalars-append (between c) (39 ∷ []) (between_scalars c one) refl))

-- its value
abbrev HasValue : ℕ → List ℕ → Type 0
HasValue c x = one_char false (x ++ 39 ∷ []) ≡ Some (c, 39 ∷ [])

-- what holds of each escape, and of each other character, holds of what is between
between_cases : (P : ℕ → List ℕ → Type 0) → P 39 (92 ∷ 39 ∷ []) → P 34 (34 ∷ []) →
    P 92 (92 ∷ 92 ∷ []) → P 10 (92 ∷ 110 ∷ []) → P 13 (92 ∷ 114 ∷ []) → P 9 (92 ∷ 116 ∷ []) →
    P 0 (92 ∷ 48 ∷ []) →
    ((c : ℕ) → (c == 92) ≡ false → is_char c ≡ true → P c (c ∷ [])) → (c : ℕ) → P c (between c)
between_cases P single double slash feed return tab nul plain c =
    cond_both (c == 39) _ _ (P c) (λ e. rw (eqb-true c 39 e) single)
    (λ a. cond_both (c == 34) _ _ (P c) (λ e. rw (eqb-true c 34 e) double)
    (λ d. written_cases (λ n w. (n == 39) ≡ false → (n == 34) ≡ false → P n w)
    (λ _ h. absurd (false≢true (sym h))) (λ _ _. slash) (λ _ _. feed) (λ _ _. return) (λ _ _. tab)
    (λ _ _. nul) (λ n q s f r t _ b _. plain n s (simp (s, b, t, f, r))) c a d))

value : (c : ℕ) → HasValue c (between c)
value = between_cases HasValue refl refl refl refl refl refl refl (λ c slash h. cc)

-- one piece
module _ (mode : Mode) where
  -- between apostrophes this is one character literal
  abbrev IsPiece : List ℕ → Type 0
  IsPiece x = IsOneChar mode (39 ∷ (x ++ 39 ∷ []))

  escaped_piece : (e : ℕ) → IsEscape false false (e ∷ []) → IsPiece (92 ∷ e ∷ [])
  escaped_piece e s = inr (
    decides_begun mode 39 (92 ∷ e ∷ 39 ∷ []) start.Apostrophe refl refl
        (here (whole (Spells EscapedChar) (39 ∷ 92 ∷ e ∷ 39 ∷ [])
        (92 ∷ e ∷ [], [], refl, (e ∷ [], refl, s), inl refl))),
    λ at. refl,
  )

  plain_piece : (c : ℕ) → is_char c ≡ true → (c ≡ 92 → ⊥) → IsPiece (c ∷ [])
  plain_piece c h n = inl (
    decides_begun mode 39 (c ∷ 39 ∷ []) start.Apostrophe refl refl
        (later no_escape (later no_start
        (here (whole (Spells PlainChar) (39 ∷ c ∷ 39 ∷ [])
        (c ∷ [], [], refl, (c, h, refl), inl refl))))),
    λ at. refl,
  )
    where
      no_escape : HasPrefix (Spells EscapedChar) (39 ∷ c ∷ 39 ∷ []) → ⊥
      no_escape (piece, after, cut, (inner, suffix, e, (more, f, s), k)) =
          let all : 39 ∷ c ∷ 39 ∷ [] ≡ 39 ∷ 92 ∷ ((more ++ 39 ∷ suffix) ++ after) =
          cut ∙ ap (λ w. w ++ after) (e ∙ ap (λ w. 39 ∷ (w ++ 39 ∷ suffix)) f) in
          n cc

      no_start : HasPrefix (Spells BadEscapedChar) (39 ∷ c ∷ 39 ∷ []) → ⊥
      no_start (piece, after, cut, e) =
          let all : 39 ∷ c ∷ 39 ∷ [] ≡ 39 ∷ 92 ∷ after = cut ∙ ap (λ w. w ++ after) e in
          n cc

  one_piece : (c : ℕ) → IsPiece (between c)
  one_piece =
      between_cases (λ _. IsPiece) (escaped_piece 39 (simple 39 refl))
      (plain_piece 34 refl (λ k. omega (arith, k))) (escaped_piece 92 (simple 92 refl))
      (escaped_piece 110 (simple 110 refl)) (escaped_piece 114 (simple 114 refl))
      (escaped_piece 116 (simple 116 refl)) (escaped_piece 48 (simple 48 refl))
      (λ c slash h. plain_piece c h (eqb-false c 92 slash))

pub characters_are_read : (mode : Mode) (c : ℕ) → IsScalar c →
    IsOneChar mode (chars (in_apostrophes c)) × IsCharValue (chars (in_apostrophes c)) c
characters_are_read mode c h =
    rw (chars_between c h) (
      one_piece mode c,
      (between c ++ 39 ∷ [], refl, (39 ∷ [], value c, ([], refl, refl))),
    )
