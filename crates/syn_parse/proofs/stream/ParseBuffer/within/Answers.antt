use Rattle.syn_parse.specs.Reads.{as_does}
use Rattle.syn_parse.proofs.GroupTakes.{group_told}
use Rattle.syn_parse.proofs.stream.ParseBuffer.within.Goals as goal

pub returns-clause-runs : goal.returns-clause-runs
returns-clause-runs g c =
    as_does _ c.args.self.now c.run_within.result c.run_within.new.self c.run_within.ensures.runs

pub returns-clause-takes : goal.returns-clause-takes
returns-clause-takes g c visible inner each =
    group_told (λ v. v) inner _ c.args.delimiter visible c.args.self.now c.run_within.new.self each
    c.run_within.result c.run_within.ensures.runs
