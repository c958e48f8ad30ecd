use Rattle.std.specs.Str.{chars}
use Rattle.tok_buffer.specs.Buffer.{forest_of}
use Rattle.tok_buffer.proofs.Reading.{kept_source, same_source}
use Rattle.tok_buffer.proofs.laws.source_as_stream.Goals as goal

pub returns-clause-same : goal.returns-clause-same
returns-clause-same c =
    let text = chars c.args.text.now in
    let follows = kept_source c.args.edition c.args.source text c.lex_source.result
    (forest_of c.laid_out-laid.result) c.laid_out-laid.ensures.kept c.lex_source.ensures
    in
    same_source c.args.edition c.args.source text c.from_source-read.result
    c.laid_out-laid.result c.args.number c.from_source-read.ensures.number
    c.laid_out-laid.ensures.number c.from_source-read.ensures.follows follows

pub returns-clause-lexed : goal.returns-clause-lexed
returns-clause-lexed c =
    kept_source c.args.edition c.args.source (chars c.args.text.now) c.lex_source.result
    (forest_of c.laid_out-laid.result) c.laid_out-laid.ensures.kept c.lex_source.ensures
