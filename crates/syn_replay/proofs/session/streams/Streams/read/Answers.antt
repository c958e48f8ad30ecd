use Rattle.std.proofs.Common.{length-set, arith}
use Rattle.syn_replay.proofs.Walk.Reads.{line_after, listed_after}
use Rattle.syn_replay.proofs.Walk.Streams.{open_listed}
use Rattle.syn_replay.proofs.session.streams.Streams.read.Goals as goal
use Rattle.std.proofs.lemmas.Grind.{common_steps}

pub index_mut-requires : goal.index_mut-requires
index_mut-requires g c = grind (arith, common_steps, open_listed)

pub invariant_of-self : goal.invariant_of-self
invariant_of-self g c =
    let s = c.args.self.now in
    let xs = s.list.items in
    let z = c.read.new.self in
    record {
      rooted = omega (arith, length-set xs c.args.n z, s.rooted);
      listed =
          listed_after xs c.args.n c.index_mut.result.now z _ c.index_mut.ensures.value
          (c.in-Ok.ensures {u = tt}) s.listed c.read.ensures.contents;
    }

pub returns-in-Ok : goal.returns-in-Ok
returns-in-Ok g c r reads =
    line_after c.args.self.now.list.items c.args.n c.index_mut.result.now c.read.new.self _
    c.index_mut.ensures.value (c.in-Ok.ensures {u = tt}) r c.read.result
    (c.read.ensures.line r reads)
