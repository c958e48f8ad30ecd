use Rattle.std.proofs.Common.{length-set, arith}
use Rattle.syn_replay.specs.Commands as commands
use Rattle.syn_replay.specs.Meanings.{kind_of}
use Rattle.syn_replay.proofs.Walk.Reads.{line_after, listed_after}
use Rattle.syn_replay.proofs.Walk.Streams.{open_listed}
use Rattle.syn_replay.proofs.session.streams.Streams.parse.Goals as goal
use Rattle.std.proofs.lemmas.Grind.{common_steps}

pub index_mut-requires : goal.index_mut-requires
index_mut-requires c = grind (arith, common_steps, open_listed)

pub invariant_of-self : goal.invariant_of-self
invariant_of-self c =
    let s = c.args.self.now in
    let xs = s.list.items in
    let z = c.parse.new.self in
    record {
      rooted = omega (arith, length-set xs c.args.n z, s.rooted);
      listed =
          listed_after xs c.args.n c.index_mut.result.now z _ c.index_mut.ensures.value
          (c.in-Ok.ensures {u = tt}) s.listed c.parse.ensures.contents;
    }

pub returns-in-Ok : goal.returns-in-Ok
returns-in-Ok c =
    line_after c.args.self.now.list.items c.args.n c.index_mut.result.now c.parse.new.self _
    c.index_mut.ensures.value (c.in-Ok.ensures {u = tt}) (commands.parse (kind_of c.args.kind))
    c.parse.result c.parse.ensures.line
