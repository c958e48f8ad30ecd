use Rattle.std.proofs.Common.{inl, rules}
use Rattle.std.specs.Str.{chars}
use Rattle.syn_parse.specs.Sources.{end_of_tokens}
use Rattle.syn_parse.proofs.WholeTakes.{explained_once, text_once, text_keeps}
use Rattle.syn_parse.proofs.whole.parse_text.Goals as goal

pub returns-in-Ok-clause-takes : goal.returns-in-Ok-clause-takes
returns-in-Ok-clause-takes g c =
    let f = c.in-Ok.buffer.forest in
    let reads = c.in-Ok.ensures.follows.reads in
    let end = end_of_tokens c.args.number in
    inl (
      f,
      reads,
      text_keeps g.T.Parse.takes c.args.number (chars c.args.text.now) f end _ _ _ _
          reads (search rules) c.parse-parsed.ensures.takes c.finish_parsed.ensures,
    )

pub returns-in-Ok-clause-once : goal.returns-in-Ok-clause-once
returns-in-Ok-clause-once g c =
    let text = chars c.args.text.now in
    text_once c.args.number (end_of_tokens c.args.number) _ (explained_once _ text)
    g.T.Parse.takes text c.finish_parsed.result
    (returns-in-Ok-clause-takes g c)
