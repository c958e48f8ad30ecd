-- The spans of the first and the last of some trees.
use Rattle.std.proofs.Common.{◌≡◌, ℕ, zero, suc, ◌-◌, List, [], ◌∷◌, length, Some, slice_get, arith}
use Rattle.tok_core.specs.declared.stream.TokenTree.{TokenTree}
use Rattle.tok_core.specs.Seen.{tree_of, trees_of}
use Rattle.tok_core.specs.Forest.{tree_span}
use Rattle.tok_buffer.specs.Spans.{spanned, last_span}

last_is : (t b : TokenTree) (ts : List TokenTree) (k : ℕ) → k ≡ length ts → slice_get (t ∷ ts) k
    ≡ Some b → last_span (tree_span (tree_of t)) (trees_of ts) ≡ tree_span (tree_of b)
last_is t b [] zero e h = let same : t ≡ b = cc in rw same
last_is t b [] (suc k) e h = absurd (omega arith)
last_is t b (u ∷ us) zero e h = absurd (omega arith)
last_is t b (u ∷ us) (suc k) e h = last_is u b us k (omega arith) h

pub ends_are : (a b : TokenTree) (ts : List TokenTree) → slice_get ts 0 ≡ Some a →
    slice_get ts (length ts - 1) ≡ Some b → spanned (trees_of ts)
    ≡ (tree_span (tree_of a), tree_span (tree_of b))
ends_are a b [] h k = cc
ends_are a b (t ∷ ts) h k =
    let same : t ≡ a = cc in
    rw (last_is t b ts (length (t ∷ ts) - 1) (omega arith) k, same)
