-- No escape begins another.
use Rattle.std.proofs.Common.{◌≡◌, ◌∙◌, ℕ, ◌<◌, inl, inr, List, [], ◌∷◌, ◌++◌, refl, sym, ap}
use Rattle.std.proofs.Common.{arith, append_assoc, true, false, Bool}
use Rattle.std.specs.Prelude.{Option, Some, None, if◌then◌else◌}
use Rattle.std.specs.Borrow.{Bor}
use Rattle.std.specs.List.{list_all}
use Rattle.std.proofs.lemmas.Bool.{false≢true, and_parts}
use Rattle.tok_lexical.specs.Pieces.{HasPrefix, IsOne, After}
use Rattle.tok_lexical.specs.Private.Finds.{ReadsPrefix}
use Rattle.tok_lexical.specs.Strings.{is_simple_escape, is_hex_or_underscore, IsHex, IsCode}
use Rattle.tok_lexical.specs.Strings.{IsLineEnd, IsEscape, simple, hex, code, line_end}
use Rattle.tok_lexical.specs.Strings.{IsCEscape, EscapeOf, is_byte, IsEscapedChar, IsByte}
use Rattle.tok_lexical.specs.declared.contents.Contents.{Contents}
use Rattle.tok_lexical.specs.declared.contents.Contents.TheVariants.{Text, Bytes, C}
use Rattle.tok_lexical.proofs.Longest.{IsFree, finds_after}

pub heads : (a b : ℕ) (x y : List ℕ) → a ∷ x ≡ b ∷ y → a ≡ b
heads a b x y e = cc

pub tails : (a b : ℕ) (x y : List ℕ) → a ∷ x ≡ b ∷ y → x ≡ y
tails a b x y e = cc

pub free_one : (p : ℕ → Bool) → IsFree (IsOne p)
free_one p a b (c, h, e) (d, k, f) x y g = (cc, cc)

pub free_after : (k : ℕ) (S : List ℕ → Type 0) → IsFree S → IsFree (After k S)
free_after k S free a b (more, e, s) (other, f, t) x y g =
    let w = free more other s t x y (cc) in (cc, w.1)

-- characters that pass, up to one that doesn't
pub all_stop : (p : ℕ → Bool) (k : ℕ) (xs ys x y : List ℕ) → p k ≡ false → list_all p xs ≡ true →
    list_all p ys ≡ true → xs ++ k ∷ x ≡ ys ++ k ∷ y → (xs ≡ ys) × (x ≡ y)
all_stop p k [] [] x y n a b e = (refl, cc)
all_stop p k [] (d ∷ ys) x y n a b e = grind arith
all_stop p k (c ∷ xs) [] x y n a b e = grind arith
all_stop p k (c ∷ xs) (d ∷ ys) x y n a b e =
    let w = all_stop p k xs ys x y n (and_parts (p c) (list_all p xs) a).1
    (and_parts (p d) (list_all p ys) b).1 (cc) in
    (cc, w.1)

free_hex : (top : ℕ) → IsFree (IsHex top)
free_hex top a b (h, l, e, s, t) (h', l', f, s', t') x y g = (cc, cc)

free_code : IsFree IsCode
free_code a b (c, ds, e, h, all, n) (c', ds', f, h', all', n') x y g =
    let w = all_stop is_hex_or_underscore 125 ds ds' x y refl all all'
    (cc (append_assoc ds (125 ∷ []) x, append_assoc ds' (125 ∷ []) y)) in
    (cc, w.1)

free_line_end : IsFree IsLineEnd
free_line_end a b v w x y g = grind arith

-- a line end begins with no character that a simple escape may have, nor with a letter
line_simple : (a : List ℕ) (k : ℕ) (x y : List ℕ) → is_simple_escape k ≡ true → IsLineEnd a →
    k ∷ x ≡ a ++ y → ⊥
line_simple a k x y s l g = grind arith

line_other : (a : List ℕ) (k : ℕ) (x y : List ℕ) → 100 < k → IsLineEnd a → k ∷ x ≡ a ++ y → ⊥
line_other a k x y s l g = grind arith

free_escape : (le wide : Bool) → IsFree (IsEscape le wide)
free_escape le wide a b v w x y g = go v w x y g
  where
    go : {a b : List ℕ} → IsEscape le wide a → IsEscape le wide b → (x y : List ℕ) →
        a ++ x ≡ b ++ y → (a ≡ b) × (x ≡ y)
    go (simple c s) (simple d r) x y e = (cc, cc)
    go (simple c s) (hex h) x y e = absurd (grind arith)
    go (simple c s) (code n h) x y e = absurd (grind arith)
    go {b = b} (simple c s) (line_end l h) x y e = absurd (line_simple b c x y s h e)
    go (hex h) (simple d r) x y e = absurd (grind arith)
    go (hex {text = t} h) (hex {text = u} k) x y e =
        let w = free_hex _ t u h k x y (cc) in (cc, w.1)
    go (hex h) (code n k) x y e = absurd (grind arith)
    go {b = b} (hex h) (line_end l k) x y e = absurd (line_other b 120 _ y (omega arith) k e)
    go (code n h) (simple d r) x y e = absurd (grind arith)
    go (code n h) (hex k) x y e = absurd (grind arith)
    go (code {text = t} n h) (code {text = u} m k) x y e =
        let w = free_code t u h k x y (cc) in (cc, w.1)
    go {b = b} (code n h) (line_end l k) x y e = absurd (line_other b 117 _ y (omega arith) k e)
    go {a = a} (line_end l h) (simple d r) x y e = absurd (line_simple a d y x r h (sym e))
    go {a = a} (line_end l h) (hex k) x y e =
        absurd (line_other a 120 _ x (omega arith) h (sym e))
    go {a = a} (line_end l h) (code n k) x y e =
        absurd (line_other a 117 _ x (omega arith) h (sym e))
    go {a = a} {b = b} (line_end l h) (line_end m k) x y e = free_line_end a b h k x y e

-- an escape of bytes doesn't begin with a `u`
wide_code : (le : Bool) (a : List ℕ) (k : ℕ) (x y : List ℕ) → k ≡ 117 → IsEscape le true a →
    k ∷ x ≡ a ++ y → ⊥
wide_code le a k x y u (simple c s) e = absurd (grind arith)
wide_code le a k x y u (hex h) e = absurd (let w : k ≡ 120 = cc in omega arith)
wide_code le a k x y u (code n h) e = absurd (false≢true (sym n))
wide_code le a k x y u (line_end l h) e = line_other a k x y (omega arith) h e

free_c_escape : IsFree IsCEscape
free_c_escape a b (inl v) (inl w) x y g = free_escape true true a b v w x y g
free_c_escape a b (inl v) (inr (more, f, t)) x y g =
    absurd (wide_code true a 117 (more ++ y) x refl v (cc))
free_c_escape a b (inr (more, f, t)) (inl w) x y g =
    absurd (wide_code true b 117 (more ++ x) y refl w (cc))
free_c_escape a b (inr v) (inr w) x y g = free_after 117 IsCode free_code a b v w x y g

pub free_string_escape : (kind : Contents) → IsFree (EscapeOf kind)
free_string_escape Text = free_escape true false
free_string_escape Bytes = free_escape true true
free_string_escape C = free_c_escape

pub finds_c_code : (text rest : List ℕ) (answer : Option (Bor (List ℕ))) → text ≡ 117 ∷ rest →
    ReadsPrefix IsCode rest answer → ReadsPrefix IsCEscape text answer
finds_c_code text rest None e misses = λ (piece, after, cut, h). elim h [
  | inl v ↦ wide_code true piece 117 rest after refl v (sym e ∙ cut)
  | inr v ↦ finds_after 117 IsCode text rest None e misses (piece, after, cut, v)
]
finds_c_code text rest (Some last) e (piece, cut, v) = (117 ∷ piece, cc, inr (piece, refl, v))

pub finds_c_other : (text : List ℕ) (answer : Option (Bor (List ℕ))) →
    ((more : List ℕ) → text ≡ 117 ∷ more → ⊥) → ReadsPrefix (IsEscape true true) text answer →
    ReadsPrefix IsCEscape text answer
finds_c_other text None n misses = λ (piece, after, cut, h). elim h [
  | inl v ↦ misses (piece, after, cut, v)
  | inr (more, f, v) ↦ n (more ++ after) (cc)
]
finds_c_other text (Some last) n (piece, cut, v) = (piece, cut, inl v)

pub free_escaped : IsFree IsEscapedChar
free_escaped = free_after 92 (IsEscape false false) (free_escape false false)

pub not_backslash : (c : ℕ) → c ≡ 92 → is_byte c ≡ true → ⊥
not_backslash c e h = false≢true (ap is_byte (sym e) ∙ h)

pub free_byte : IsFree IsByte
free_byte a b (inl s) (inl t) x y g = free_one is_byte a b s t x y g
free_byte a b (inl (c, h, e)) (inr (more, f, t)) x y g = absurd (not_backslash c (cc) h)
free_byte a b (inr (more, f, t)) (inl (c, h, e)) x y g = absurd (not_backslash c (cc) h)
free_byte a b (inr s) (inr t) x y g = free_after 92 (IsEscape false true)
    (free_escape false true) a b s t x y g

-- what the tries of an escape answer
none_escape : (le wide : Bool) (kind : ℕ) (rest piece after : List ℕ) → is_simple_escape kind
    ≡ false → (kind ≡ 120 → HasPrefix (IsHex (if wide then 16 else 8)) rest → ⊥) →
    (kind ≡ 117 → wide ≡ false → HasPrefix IsCode rest → ⊥) →
    (le ≡ true → HasPrefix IsLineEnd (kind ∷ rest) → ⊥) → IsEscape le wide piece →
    kind ∷ rest ≡ piece ++ after → ⊥
none_escape le wide kind rest piece after n a b c (simple d s) e =
    let same : kind ≡ d = cc in false≢true (sym n ∙ ap is_simple_escape same ∙ s)
none_escape le wide kind rest piece after n a b c (hex {text = t} h) e = a (cc) (t, after, cc, h)
none_escape le wide kind rest piece after n a b c (code {text = t} w h) e =
    b (cc) w (t, after, cc, h)
none_escape le wide kind rest piece after n a b c (line_end l h) e = c l (piece, after, e, h)

no_line : (kind : ℕ) (rest : List ℕ) → 100 < kind → HasPrefix IsLineEnd (kind ∷ rest) → ⊥
no_line kind rest l (piece, after, cut, h) = line_other piece kind rest after l h cut

module _ (le wide : Bool) (text rest : List ℕ) (kind : ℕ) (one : text ≡ kind ∷ rest) where
  pub finds_simple : is_simple_escape kind ≡ true → (piece : List ℕ) × (text ≡ piece ++ rest)
      × IsEscape le wide piece
  finds_simple s = (kind ∷ [], one, simple kind s)

  pub finds_hex : (answer : Option (Bor (List ℕ))) (top : ℕ) → top ≡ (if wide then 16 else 8) →
      is_simple_escape kind ≡ false → kind ≡ 120 → ReadsPrefix (IsHex top) rest answer →
      ReadsPrefix (IsEscape le wide) text answer
  finds_hex None top t n k misses = λ (piece, after, cut, v). none_escape le wide kind rest piece
      after n (λ _ f. misses (rw t f)) (λ e. absurd (omega arith))
      (λ _ f. no_line kind rest (omega arith) f) v (sym one ∙ cut)
  finds_hex (Some after) top t n k (piece, cut, v) = (120 ∷ piece, cc, hex (rw t at v))

  pub finds_code : (answer : Option (Bor (List ℕ))) → wide ≡ false → is_simple_escape kind
      ≡ false → kind ≡ 117 → ReadsPrefix IsCode rest answer → ReadsPrefix (IsEscape le wide) text
      answer
  finds_code None w n k misses = λ (piece, after, cut, v). none_escape le wide kind rest piece
      after n (λ e. absurd (omega arith)) (λ _ _ f. misses f)
      (λ _ f. no_line kind rest (omega arith) f) v (sym one ∙ cut)
  finds_code (Some after) w n k (piece, cut, v) = (117 ∷ piece, cc, code w v)

  pub finds_line : (answer : Option (Bor (List ℕ))) → le ≡ true → is_simple_escape kind ≡ false →
      (kind ≡ 120 → ⊥) → (kind ≡ 117 → ⊥) → ReadsPrefix IsLineEnd text answer →
      ReadsPrefix (IsEscape le wide) text answer
  finds_line None l n a b misses = λ (piece, after, cut, v). none_escape le wide kind rest piece
      after n (λ e. absurd (a e)) (λ e. absurd (b e)) (λ _ f. misses (rw one f)) v (sym one ∙ cut)
  finds_line (Some after) l n a b (piece, cut, v) = (piece, cut, line_end l v)
