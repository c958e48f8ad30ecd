use Rattle.tok_core.proofs.Lexical.Laws.{follows_source, no_longer}
use Rattle.tok_buffer.specs.Buffer.{forest_of}
use Rattle.tok_buffer.proofs.Reading.{buffer_follows}
use Rattle.tok_buffer.proofs.buffer.TokenBuffer.from_source.Goals as goal

pub overflow_sub-start : goal.overflow_sub-start
overflow_sub-start c =
    no_longer c.args.text.now c.past_start-rest.result.now c.past_start-rest.ensures.cut
    c.utf8.text c.past_start-rest.utf8

pub returns-clause-follows : goal.returns-clause-follows
returns-clause-follows c =
    follows_source c.args.text.now c.past_start-rest.result.now c.past_start-rest.ensures.cut
    c.utf8.text c.past_start-rest.utf8 c.args.edition c.args.source c.past_start-rest.ensures.begins
    (forest_of c.read_buffer.result) (buffer_follows _ _ _ _ c.read_buffer.result
    c.read_buffer.ensures.reads c.read_buffer.ensures.refuses)
