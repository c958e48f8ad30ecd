use Rattle.tok_core.proofs.Lexical.Laws.{follows}
use Rattle.tok_core.proofs.lexer.lex.Goals as goal

pub returns : goal.returns
returns c = follows 0 _ _ _ c.read_trees.result c.read_trees.ensures.reads
    c.read_trees.ensures.refuses
