-- The weight of a list of trees, once its trees have been counted.
use Rattle.std.proofs.Common.{◌≡◌, List, [], ◌∷◌, ◌+◌, length, arith}
use Rattle.tok_core.specs.declared.stream.TokenTree.{TokenTree}
use Rattle.tok_core.specs.Private.Excess.{excess}
use Rattle.tok_core.specs.Seen.{trees_of}
use Rattle.tok_core.specs.Weight.{weight}

pub weight_counted : (ts : List TokenTree) → weight (trees_of ts) ≡ length ts + excess (trees_of ts)
weight_counted [] = omega arith
weight_counted (t ∷ ts) = let more = weight_counted ts in grind arith
