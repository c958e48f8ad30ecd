use Rattle.std.proofs.Common.{ap, sym, ◌∙◌, rules}
use Rattle.tok_core.specs.Filled.{has_trees}
use Rattle.tok_core.proofs.Trees.{has_trees_of}
use Rattle.tok_core.proofs.stream.TokenStream.is_empty.Goals as goal

pub returns : goal.returns
returns c =
    let v = c.self.inside.trees in
    ap has_trees (sym c.self.view_is) ∙ has_trees_of v.items ∙ search rules
