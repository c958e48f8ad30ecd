-- Streams compared tree by tree.
use Rattle.std.proofs.Common.{◌≡◌, ◌≢◌, refl, false, List, [], ◌∷◌, length, arith}
use Rattle.std.proofs.Math.Bool.{and-false}
use Rattle.tok_core.specs.declared.stream.TokenTree.{TokenTree}
use Rattle.tok_core.specs.Seen.{trees_of}
use Rattle.tok_core.specs.Spanless.{alike}

-- streams of other lengths are not alike
pub alike_lengths : (ts us : List TokenTree) → length ts ≢ length us →
    alike (trees_of ts) (trees_of us) ≡ false
alike_lengths [] [] n = absurd (n refl)
alike_lengths [] (u ∷ us) n = refl
alike_lengths (t ∷ ts) [] n = refl
alike_lengths (t ∷ ts) (u ∷ us) n =
    rw (alike_lengths ts us (λ e. n (omega (arith, e)))) (and-false _)
