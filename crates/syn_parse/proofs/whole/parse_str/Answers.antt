use Rattle.std.proofs.Common.{inl, rules}
use Rattle.std.specs.Str.{chars}
use Rattle.tok_leaves.specs.Spans.{call_site}
use Rattle.syn_parse.proofs.WholeTakes.{lexer_once, text_once, text_keeps}
use Rattle.syn_parse.proofs.whole.parse_str.Goals as goal

pub returns-in-Ok-clause-takes : goal.returns-in-Ok-clause-takes
returns-in-Ok-clause-takes g c =
    let f = c.in-Ok.buffer.forest in
    let reads = c.in-Ok.ensures.follows.reads in
    inl (
      f,
      reads,
      text_keeps g.T.Parse.takes 0 (chars c.args.text.now) f (λ f. call_site) _ _ _ _
          reads (search rules) c.parse-parsed.ensures.takes c.finish_parsed.ensures,
    )

pub returns-in-Ok-clause-once : goal.returns-in-Ok-clause-once
returns-in-Ok-clause-once g c =
    text_once 0 (λ f. call_site) _ (lexer_once _) g.T.Parse.takes (chars c.args.text.now)
    c.finish_parsed.result (returns-in-Ok-clause-takes g c)
