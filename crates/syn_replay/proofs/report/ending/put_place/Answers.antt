use Rattle.std.proofs.Common.{arith}
use Rattle.std.proofs.lemmas.List.{drop_all}
use Rattle.syn_replay.specs.declared.report.ending.TheConstants.{ROOM}
use Rattle.syn_replay.proofs.report.ending.put_place.Goals as goal

pub returns-clause-written : goal.returns-clause-written
returns-clause-written c = let end = drop_all ROOM c.args.bytes.now (omega arith) in cc

pub returns-clause-ascii : goal.returns-clause-ascii
returns-clause-ascii c =
    c.put.ensures.ascii (c.put-at-2.ensures.ascii (c.put_number-at.ensures.ascii
    (c.put-at.ensures.ascii
    (rw (drop_all ROOM c.args.bytes.now (omega arith)) (λ i. omega arith)))))
