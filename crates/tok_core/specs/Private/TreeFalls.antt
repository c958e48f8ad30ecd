-- The content of each group weighs less than the whole.
use Rattle.std.specs.Prelude.{◌≤◌, List, [], ◌∷◌}
use Rattle.std.proofs.Common.{arith}
use denote.Param.Weighed.{most}
use Rattle.tok_core.specs.Weight.{weight}
use Rattle.tok_core.specs.Seen.{trees_of}
use Rattle.tok_core.specs.declared.stream.TokenTree.{TokenTree}
use Rattle.tok_core.specs.declared.stream.TokenTree.TheVariants.{Ident, Punct, Literal, Group}
use Rattle.tok_core.specs.declared.stream.TokenStream.TheDeep.{deep-TokenTree}

-- the measure of the deepest tree is at most the weight of all trees
pub most_le_weight : (ts : List TokenTree) → most deep-TokenTree ts ≤ weight (trees_of ts)
most_le_weight [] = omega arith
most_le_weight (Ident i ∷ ts) = omega (arith, most_le_weight ts)
most_le_weight (Punct i ∷ ts) = omega (arith, most_le_weight ts)
most_le_weight (Literal i ∷ ts) = omega (arith, most_le_weight ts)
most_le_weight (Group g ∷ ts) = omega (arith, most_le_weight ts)
