use Rattle.std.proofs.lemmas.Grind.{common_steps}
use Rattle.std.proofs.Common.{arith}
use Rattle.std.specs.Fn.{FnOnceReturnsAtMut}
use Rattle.syn_choices.proofs.Attempts.{attempt_keeps, attempts_by}
use Rattle.syn_choices.proofs.ext.ParseBufferParseBufferExt.attempt.Goals as goal
use Rattle.syn_choices.specs.Attempts.{Attempts}
use Rattle.syn_parse.proofs.GroupTakes.{at-states}
use Rattle.syn_parse.specs.Reads.{as_does}

pub returns-clause-reads : goal.returns-clause-reads
returns-clause-reads g c =
    as_does (Attempts g.T.Parse.parses) c.args.self.now c.run_attempt.result
    c.run_attempt.new.input
    (attempts_by (FnOnceReturnsAtMut _ _) g.T.Parse.parses
    (λ x y z h. at-states g.T.Parse.parses _ _ x z y h.shows h.leaves h.met.0) c.args.self.now
    c.run_attempt.result c.run_attempt.new.input c.run_attempt.ensures)

pub returns-clause-takes : goal.returns-clause-takes
returns-clause-takes g c = grind (arith, common_steps, attempt_keeps, at-states)
