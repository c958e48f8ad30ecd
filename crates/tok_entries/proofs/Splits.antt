-- Texts are cut before a byte.
use Rattle.std.proofs.Common.{◌≡◌, ℕ, ◌+◌, ◌-◌, ◌≤◌, ◌<◌, List, [], ◌∷◌, ◌++◌, length, take, ap, sym, ◌∙◌, subst, arith, get_or}
use Rattle.std.proofs.Common.{length-append}
use Rattle.std.proofs.Math.Seq.{take-append_seam}
use Rattle.std.proofs.lemmas.Str.{IsCharBoundary-from_take}
use Rattle.std.specs.Str.{IsUtf8, IsCharBoundary}

-- a text before another ends at a boundary
pub is_cut : (bs text behind : List ℕ) (begin end size : ℕ) → IsUtf8 bs → size ≡ end - begin
    → IsUtf8 text → bs ≡ text ++ behind → end ≡ begin + length text → IsCharBoundary bs size
is_cut bs text behind begin end size whole hs u e he =
    let n : size ≡ length text = omega (arith, hs, he) in
    let le : size ≤ length bs =
    omega (arith, n, ap length e, length-append text behind) in
    let front : take size bs ≡ text =
    ap (λ k. take k bs) n ∙ ap (λ x. take (length text) x) e ∙ take-append_seam text behind in
    IsCharBoundary-from_take bs size whole le (subst IsUtf8 (sym front) u)

-- a text of one byte
pub only_byte : (bs : List ℕ) (b : ℕ) → 1 ≤ length bs → length bs < 2 → b ≡ get_or bs 0 0
    → bs ≡ b ∷ []
only_byte [] b least most e = absurd (omega arith)
only_byte (x ∷ []) b least most e = ap (λ y. y ∷ []) (sym e)
only_byte (x ∷ (y ∷ bs)) b least most e = absurd (omega arith)
