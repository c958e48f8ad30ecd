use Rattle.tok_core.proofs.Lexical.Laws.{follows_source, no_longer}
use Rattle.tok_entries.proofs.Lexed.{writes, writes_so}
use Rattle.tok_entries.proofs.lexing.LexedEntries.from_source.Goals as goal

pub overflow_sub-start : goal.overflow_sub-start
overflow_sub-start c =
    no_longer c.args.text.now c.past_start-rest.result.now c.past_start-rest.ensures.cut
    c.utf8.text c.past_start-rest.utf8

pub returns : goal.returns
returns c =
    writes_so _ _ (follows_source c.args.text.now c.past_start-rest.result.now
    c.past_start-rest.ensures.cut c.utf8.text c.past_start-rest.utf8 c.args.edition 0
    c.past_start-rest.ensures.begins) c.lex_entries.result
    (writes _ _ _ c.lex_entries.result c.lex_entries.ensures.reads c.lex_entries.ensures.refuses)
