use Rattle.std.proofs.Common.{rules}
use Rattle.tok_core.proofs.Fronts.{trees_of_append}
use Rattle.tok_core.proofs.stream.TokenStream.extend.Goals as goal

pub returns-clause-ok : goal.returns-clause-ok
returns-clause-ok c = search (rules, trees_of_append)
