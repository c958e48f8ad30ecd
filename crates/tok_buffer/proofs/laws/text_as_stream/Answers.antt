use Rattle.std.proofs.Common.{arith}
use Rattle.std.proofs.lemmas.Grind.{common_steps}
use Rattle.std.specs.Str.{chars}
use Rattle.tok_lexical.specs.declared.rule.Mode.TheVariants.{Plain}
use Rattle.tok_buffer.proofs.Reading.{kept_follows, same_reading}
use Rattle.tok_buffer.proofs.laws.text_as_stream.Goals as goal

pub returns-clause-lexed : goal.returns-clause-lexed
returns-clause-lexed c = grind (arith, common_steps)

pub returns-clause-same : goal.returns-clause-same
returns-clause-same c =
    let follows = kept_follows 0 Plain _ _ _ _ c.laid_out-laid.ensures.kept c.lex.ensures in
    same_reading 0 Plain c.args.source (chars c.args.text.now) c.from_text-read.result
    c.laid_out-laid.result c.args.number c.from_text-read.ensures.number
    c.laid_out-laid.ensures.number c.from_text-read.ensures.follows follows
