-- A line stands in its text, so a text without the bytes has no such line.
use Rattle.std.proofs.Common.{◌≡◌, ℕ, zero, suc, ◌+◌, ◌<◌, false, eqb, List, [], ◌∷◌, ◌++◌}
use Rattle.std.proofs.Common.{length, get_or, None, ap, subst, refl, ◌∙◌, arith, length-append}
use Rattle.std.proofs.lemmas.Bool.{false_from_ne_true}
use Rattle.std.proofs.lemmas.List.{append-nil, get_or_append_left, get_or-append-add}
use Rattle.std.proofs.lemmas.List.Splits.{join_with_byte-slice_split}
use Rattle.std.proofs.lemmas.Slice.Eq.{bytes_eq-Decides}
use Rattle.std.specs.List.{All, join_with_byte, slice_split}
use Rattle.std.specs.Prelude.{bytes_eq}
use Rattle.memchr.specs.Find.{FindsNeedle, OccursAt}

module _ (needle : List ℕ) where
  occurs_first : (more : List ℕ) → OccursAt (needle ++ more) needle 0
  occurs_first more = record {
    fits = omega (arith, length-append needle more);
    reads = λ j h. ap (λ n. get_or (needle ++ more) n 0) (first j)
        ∙ get_or_append_left needle more 0 j h;
  } where
    first : (j : ℕ) → 0 + j ≡ j
    first j = omega arith

  occurs_later : (front hay : List ℕ) (k : ℕ) → OccursAt hay needle k
      → OccursAt (front ++ hay) needle (length front + k)
  occurs_later front hay k o = record {
    fits = omega (arith, length-append front hay, o.fits);
    reads = λ j h. ap (λ n. get_or (front ++ hay) n 0) (assoc j)
        ∙ get_or-append-add front hay (k + j) 0 ∙ o.reads j h;
  } where
    assoc : (j : ℕ) → length front + k + j ≡ length front + (k + j)
    assoc j = omega arith

  -- a part stands in what the parts make up
  occurs_joined : (c : ℕ) (x : List ℕ) (xs : List (List ℕ)) (i : ℕ) (d : List ℕ)
      → i < length (x ∷ xs) → get_or (x ∷ xs) i d ≡ needle
      → (k : ℕ) × OccursAt (join_with_byte c (x ∷ xs)) needle k
  occurs_joined c x [] zero d h e =
      (0, rw e (rw append-nil at (occurs_first [])))
  occurs_joined c x [] (suc i) d h e = absurd (omega arith)
  occurs_joined c x (y ∷ ys) zero d h e = (
    0,
    rw e (occurs_first (c ∷ join_with_byte c (y ∷ ys))),
  )
  occurs_joined c x (y ∷ ys) (suc i) d h e =
      let (k, o) = occurs_joined c y ys i d (omega arith) e in (
        length x + (1 + k),
        occurs_later x (c ∷ join_with_byte c (y ∷ ys)) (1 + k)
            (occurs_later (c ∷ []) (join_with_byte c (y ∷ ys)) k o),
      )

  -- a text without the bytes has no such line
  no_line : (c : ℕ) (bs : List ℕ) → FindsNeedle bs needle 0 None → (parts : List (List ℕ))
      → parts ≡ slice_split (λ b. eqb b c) bs → (i : ℕ) (d : List ℕ) → i < length parts
      → get_or parts i d ≡ needle → ⊥
  no_line c bs none [] is i d h e = absurd (omega arith)
  no_line c bs none (x ∷ xs) is i d h e =
      let (k, o) = occurs_joined c x xs i d h e in
      let whole = ap (join_with_byte c) is ∙ join_with_byte-slice_split c bs in
      let here : OccursAt bs needle k = subst (λ z. OccursAt z needle k) whole o in
      none k (omega arith) (omega (arith, here.fits)) here

  pub not_a_line : (c : ℕ) (bs : List ℕ) → FindsNeedle bs needle 0 None
      → All (λ line. bytes_eq line needle ≡ false) (slice_split (λ b. eqb b c) bs)
  not_a_line c bs none i d h =
      false_from_ne_true _ (λ yes.
      no_line c bs none (slice_split (λ b. eqb b c) bs) refl i d h ((bytes_eq-Decides _ _).0 yes))
