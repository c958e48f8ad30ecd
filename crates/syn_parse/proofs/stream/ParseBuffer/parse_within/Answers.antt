use Rattle.std.proofs.Common.{arith}
use Rattle.std.proofs.lemmas.Grind.{common_steps}
use Rattle.std.specs.Fn.{FnOnceReturnsAtMut}
use Rattle.tok_buffer.specs.Entry.{enter}
use Rattle.syn_parse.specs.ErrorWords.{delimiter_words, refused_at}
use Rattle.syn_parse.specs.Reads.{as_does}
use Rattle.syn_parse.proofs.GroupTakes.{at-states, group_keeps, runs_by}
use Rattle.syn_parse.proofs.stream.ParseBuffer.parse_within.Goals as goal

pub returns-clause-runs : goal.returns-clause-runs
returns-clause-runs g c =
    as_does _ c.args.self.now c.run_within.result c.run_within.new.self
    (runs_by (FnOnceReturnsAtMut _ _) g.T.Parse.parses
    (enter c.args.delimiter c.args.self.now.place)
    (refused_at c.args.self.now (delimiter_words c.args.delimiter)) c.args.self.now
    c.run_within.new.self c.run_within.result
    (λ x y z h. at-states g.T.Parse.parses _ _ x z y h.shows h.leaves h.met.0)
    c.run_within.ensures.runs)

pub returns-clause-takes : goal.returns-clause-takes
returns-clause-takes g c = grind (arith, common_steps, group_keeps, at-states)
