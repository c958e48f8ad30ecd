use Rattle.std.proofs.Common.{subst, sym}
use Rattle.std.specs.Str.{chars}
use Rattle.syn_parse.specs.Parsers.{IsExplained}
use Rattle.syn_parse.proofs.parser.explained.Goals as goal

pub returns-in-Refused : goal.returns-in-Refused
returns-in-Refused c =
    subst (λ fault. IsExplained (chars c.args.text.now) fault c.at.result) (sym c.in-Refused.is)
    (c.explain.result.0, c.explain.result.1.now, c.explain.ensures, c.at.ensures.words)
