-- What a search of the bytes of a text for ASCII characters says of its characters.
use Rattle.std.proofs.Common.{◌≡◌, ◌∙◌, ℕ, suc, ◌<◌, List, [], ◌∷◌, length}
use Rattle.std.proofs.Common.{refl, sym, ap, arith, Bool, true, false, get_or}
use Rattle.std.specs.Prelude.{encode_utf8, encode_utf8_all}
use Rattle.std.specs.List.{list_any}
use Rattle.std.specs.Str.{chars, IsUtf8}
use Rattle.std.proofs.lemmas.Bool.{false≢true, false_from_ne_true}
use Rattle.std.proofs.lemmas.List.{append-nil}
use Rattle.std.proofs.lemmas.List.Folds.{list_any-append}
use Rattle.std.proofs.lemmas.Str.{encode_ascii, encodes-chars, inside_one}

-- a test that only ASCII characters pass
module _ (stop : ℕ → Bool) (low : (x : ℕ) → stop x ≡ true → x < 128) where
  -- no byte before n passes
  abbrev NoneBefore : List ℕ → ℕ → Type 0
  NoneBefore bytes n = (k : ℕ) → k < n → stop (get_or bytes k 0) ≡ true → ⊥

  none_any : (xs : List ℕ) → NoneBefore xs (length xs) → list_any stop xs ≡ false
  none_any [] none = refl
  none_any (x ∷ xs) none =
      rw (false_from_ne_true (stop x) (none 0 (omega arith)))
      (none_any xs (λ k h p. none (suc k) (omega arith) p))

  any_of_one : (c : ℕ) → list_any stop (encode_utf8 c) ≡ stop c
  any_of_one c = go (stop c) refl
    where
      go : (b : Bool) → stop c ≡ b → list_any stop (encode_utf8 c) ≡ b
      go true e = rw (encode_ascii c (low c e), e) refl
      go false e = none_any (encode_utf8 c)
          (λ k h p. false≢true
          (sym e ∙ ap stop (inside_one c [] (encode_utf8 c) k (sym (append-nil (encode_utf8 c)))
          h (low (get_or (encode_utf8 c) k 0) p)) ∙ p))

  any_encoded : (cs : List ℕ) → list_any stop (encode_utf8_all cs) ≡ list_any stop cs
  any_encoded [] = refl
  any_encoded (c ∷ cs) =
      rw (list_any-append stop (encode_utf8 c) (encode_utf8_all cs), any_of_one c, any_encoded cs)
      refl

  -- some byte of a text passes if some character does
  pub any_byte : (text : List ℕ) → IsUtf8 text → list_any stop text ≡ list_any stop (chars text)
  any_byte text u = rw (encodes-chars text u) at (any_encoded (chars text))
