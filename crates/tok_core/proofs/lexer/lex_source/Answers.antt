use Rattle.tok_core.proofs.Lexical.Laws.{follows, follows_source, no_longer}
use Rattle.tok_core.proofs.lexer.lex_source.Goals as goal

pub overflow_sub-start : goal.overflow_sub-start
overflow_sub-start c =
    no_longer c.args.text.now c.past_start-rest.result.now c.past_start-rest.ensures.cut
    c.utf8.text c.past_start-rest.utf8

pub returns : goal.returns
returns c =
    follows_source c.args.text.now c.past_start-rest.result.now c.past_start-rest.ensures.cut
    c.utf8.text c.past_start-rest.utf8 c.args.edition c.args.source c.past_start-rest.ensures.begins
    c.read_trees.result
    (follows _ _ _ _ c.read_trees.result c.read_trees.ensures.reads c.read_trees.ensures.refuses)
