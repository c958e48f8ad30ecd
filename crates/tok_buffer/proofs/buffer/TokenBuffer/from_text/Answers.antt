use Rattle.tok_buffer.proofs.Reading.{buffer_follows}
use Rattle.tok_buffer.proofs.buffer.TokenBuffer.from_text.Goals as goal

pub returns-clause-follows : goal.returns-clause-follows
returns-clause-follows c = buffer_follows 0 _ _ _ c.read_buffer.result
    c.read_buffer.ensures.reads c.read_buffer.ensures.refuses
