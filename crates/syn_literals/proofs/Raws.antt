-- A raw string is cut at its first quote, and so many bytes before its end.
use Rattle.std.proofs.Common.{◌≡◌, ◌≢◌, ◌∙◌, ap, refl, arith, ℕ, zero, suc, ◌-◌, ◌<◌}
use Rattle.std.proofs.Common.{cond, List, [], ◌∷◌, ◌++◌, Option, Some, None}
use Rattle.std.proofs.Common.{length, take, drop, get_or, bytes_eq, eqb-true}
use Rattle.std.proofs.Math.Seq.{drop-append_seam, take-append_seam}
use Rattle.std.proofs.lemmas.List.{append_cancel_left, length-append, take-append-drop}
use Rattle.std.proofs.lemmas.Slice.Eq.{bytes_eq-Decides}
use Rattle.tok_lexical.specs.Ascii.{lower_r, quote}
use Rattle.tok_values.specs.Values.{split}
use Rattle.syn_literals.specs.TextValues.{is_no_quote, raw_string, raw_value}

abbrev cut : List ℕ → List ℕ × List ℕ
cut text = split is_no_quote text

-- at a character that is no quote, and at one that is
past-other : (c : ℕ) (text : List ℕ) → c ≢ quote
    → cut (c ∷ text) ≡ (c ∷ (cut text).0, (cut text).1)
past-other c text h = grind (arith, eqb-true)

at-quote : (c : ℕ) (text : List ℕ) → c ≡ quote → cut (c ∷ text) ≡ ([], c ∷ text)
at-quote c text h = grind arith

pub no_quote : (text : List ℕ) → ((i : ℕ) → i < length text → get_or text i 0 ≢ quote)
    → cut text ≡ (text, [])
no_quote [] h = refl
no_quote (c ∷ text) h =
    past-other c text (h 0 (omega arith))
    ∙ ap (λ (p : List ℕ × List ℕ). (c ∷ p.0, p.1))
    (no_quote text (λ i l. h (suc i) (omega (arith, l))))

pub first_quote : (k : ℕ) (text : List ℕ) → k < length text → get_or text k 0 ≡ quote
    → ((i : ℕ) → i < k → get_or text i 0 ≢ quote) → cut text ≡ (take k text, drop k text)
first_quote k [] l e h = absurd (omega (arith, l))
first_quote zero (c ∷ text) l e h = at-quote c text e
first_quote (suc k) (c ∷ text) l e h =
    past-other c text (h 0 (omega arith))
    ∙ ap (λ (p : List ℕ × List ℕ). (c ∷ p.0, p.1))
    (first_quote k text (omega (arith, l)) e (λ i m. h (suc i) (omega (arith, m))))

pub quote_first : (k : ℕ) (text : List ℕ) → k < length text → get_or text k 0 ≡ quote
    → drop k text ≡ quote ∷ drop 1 (drop k text)
quote_first k [] l e = absurd (omega (arith, l))
quote_first zero (c ∷ text) l e = ap (λ x. x ∷ text) e
quote_first (suc k) (c ∷ text) l e = quote_first k text (omega (arith, l)) e

-- what is found, by the parts
abbrev by-parts : List ℕ → List ℕ × List ℕ → Option (List ℕ)
by-parts text parts =
    let marks = drop 1 parts.0 in
    let rest = drop 1 parts.1 in
    let value = take (length rest - length marks - 1) rest in
    cond (bytes_eq text (raw_string marks value)) (Some value) None

none-unless : (text other value : List ℕ) → (text ≡ other → ⊥)
    → cond (bytes_eq text other) (Some value) None ≡ None
none-unless text other value h = grind (arith, bytes_eq-Decides)

head-is : {a b : ℕ} {xs ys : List ℕ} → a ∷ xs ≡ b ∷ ys → a ≡ b
head-is e = grind arith

tail-is : {a b : ℕ} {xs ys : List ℕ} → a ∷ xs ≡ b ∷ ys → xs ≡ ys
tail-is e = grind arith

longer : (t more : List ℕ) → t ≡ t ++ quote ∷ more → ⊥
longer t more e =
    let n = ap length e ∙ length-append t (quote ∷ more) in omega (arith, n)

pub raw_absent : (text : List ℕ) → cut text ≡ (text, []) → raw_value text ≡ None
raw_absent text e = grind (arith, none-unless, longer, tail-is)

module _ {text : List ℕ} (front rest : List ℕ) (parts : cut text ≡ (front, quote ∷ rest))
    (whole : text ≡ front ++ quote ∷ rest) where
  none : ((marks value : List ℕ) → front ≡ lower_r ∷ marks → rest ≡ value ++ quote ∷ marks → ⊥)
      → raw_value text ≡ None
  none h = grind (arith, parts, none-unless, whole, head-is, tail-is, append_cancel_left)

  some : (marks value : List ℕ) → front ≡ lower_r ∷ marks → rest ≡ value ++ quote ∷ marks
      → raw_value text ≡ Some value
  some marks value f r =
      ap (by-parts text) parts
      ∙ ap (λ x. by-parts text (x, quote ∷ rest)) f
      ∙ ap (λ x. by-parts text (lower_r ∷ marks, quote ∷ x)) r
      ∙ ap (λ v. cond (bytes_eq text (raw_string marks v)) (Some v) None) short
      ∙ ap (λ b. cond b (Some value) None)
      ((bytes_eq-Decides text (raw_string marks value)).1
      (whole ∙ ap (λ x. x ++ quote ∷ rest) f ∙ ap (λ x. lower_r ∷ (marks ++ quote ∷ x)) r))
    where
      short : take (length (value ++ quote ∷ marks) - length marks - 1) (value ++ quote ∷ marks)
          ≡ value
      short =
          ap (λ n. take n (value ++ quote ∷ marks))
          (ap (λ n. n - length marks - 1) (length-append value (quote ∷ marks)) ∙ omega arith)
          ∙ take-append_seam value (quote ∷ marks)

-- at the quote that is found
module _ (text front quoted rest : List ℕ) (at : ℕ)
    (found : (at < length text) × (get_or text at 0 ≡ quote)
    × ((i : ℕ) → i < at → get_or text i 0 ≢ quote))
    (f : front ≡ take at text) (len : length front ≡ at) (q : quoted ≡ drop at text)
    (r : rest ≡ drop 1 quoted) where
  quoted-is : drop at text ≡ quote ∷ rest
  quoted-is = grind (arith, quote_first)

  parts : cut text ≡ (front, quote ∷ rest)
  parts = grind (arith, first_quote, quoted-is)

  whole : text ≡ front ++ quote ∷ rest
  whole = grind (arith, take-append-drop, quoted-is)

  pub too_short : length rest < at → raw_value text ≡ None
  too_short l = grind (arith, none, parts, whole, length-append)

  end-is : (marks value : List ℕ) → front ≡ lower_r ∷ marks → rest ≡ value ++ quote ∷ marks
      → length rest - at ≡ length value
  end-is marks value f r = grind (arith, length-append)

  module _ (end : ℕ) (is : length rest - at ≡ end) (tail : List ℕ) (t : tail ≡ drop end rest) where
    pub unclosed : ((marks : List ℕ) → front ≡ lower_r ∷ marks → tail ≡ quote ∷ marks → ⊥)
        → raw_value text ≡ None
    unclosed h = grind (arith, none, parts, whole, end-is, drop-append_seam)

    pub closed : (value marks : List ℕ) → value ≡ take end rest → front ≡ lower_r ∷ marks
        → tail ≡ quote ∷ marks → Some value ≡ raw_value text
    closed value marks v f k = grind (arith, some, parts, whole, take-append-drop)
