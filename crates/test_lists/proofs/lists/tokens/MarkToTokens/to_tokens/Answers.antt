use Rattle.std.proofs.Common.{refl, sym}
use Rattle.tok_core.proofs.Facts.{concat-none}
use Rattle.tok_core.specs.Forest.{no_trees}
use Rattle.test_lists.proofs.lists.tokens.MarkToTokens.to_tokens.Goals as goal

pub returns-then-eq-clause-err : goal.returns-then-eq-clause-err
returns-then-eq-clause-err c = (no_trees, _, no_trees, refl, sym (concat-none c.args.tokens.now))
