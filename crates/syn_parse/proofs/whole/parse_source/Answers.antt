use Rattle.std.proofs.Common.{arith}
use Rattle.std.proofs.lemmas.Grind.{common_steps}
use Rattle.std.specs.Str.{chars}
use Rattle.syn_parse.proofs.WholeTakes.{source_once, whole_keeps}
use Rattle.syn_parse.proofs.whole.parse_source.Goals as goal

pub returns-in-Ok-clause-takes : goal.returns-in-Ok-clause-takes
returns-in-Ok-clause-takes g c = grind (arith, common_steps, whole_keeps)

pub returns-in-Ok-clause-once : goal.returns-in-Ok-clause-once
returns-in-Ok-clause-once g c =
    let kept = returns-in-Ok-clause-takes g c in
    source_once c.args.edition (chars c.args.text.now) g.T.Parse.takes kept.0
    c.finish_parsed.result kept.1 kept.2
