use Rattle.tok_entries.proofs.Lexed.{writes}
use Rattle.tok_entries.proofs.lexing.LexedEntries.from_marked.Goals as goal

pub returns : goal.returns
returns c =
    writes 0 _ _ c.lex_entries.result c.lex_entries.ensures.reads c.lex_entries.ensures.refuses
