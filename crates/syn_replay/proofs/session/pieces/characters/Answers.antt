use Rattle.std.proofs.Common.{rules, arith, ap, length}
use Rattle.std.proofs.lemmas.Slice.Zip.{Zip-more, either_empty_from_Zip}
use Rattle.syn_replay.proofs.Walk.Pieces.{all_pieces, one_more_piece}
use Rattle.syn_replay.proofs.session.pieces.characters.Goals as goal
use Rattle.std.proofs.lemmas.Grind.{common_steps}

pub push_reserved-requires : goal.push_reserved-requires
push_reserved-requires c = grind (arith, common_steps, c.next.ensures.steps)

pub loop-byte-preserved : goal.loop-byte-preserved
loop-byte-preserved c =
    let more =
    Zip-more c.loop-byte.byte-iterator c.next.new.self c.next.result (
      c.in-Some.field-0-0,
      c.in-Some.field-0-1,
    ) c.in-Some.is c.next.ensures.steps in
    record {
      made =
          rw c.push_reserved.ensures.items
          (one_more_piece c.loop-byte.pieces.items c.in_ok-character.field-0 _ _ _ _ _
          c.in-Some.field-0-0.now c.in-Some.field-0-1.now (search rules) more.0 more.1
          c.loop-byte.invariant.made);
      room =
          omega (
            arith,
            ap length more.0,
            c.push_reserved.ensures.len,
            c.push_reserved.ensures.capacity,
            c.loop-byte.invariant.room,
          );
    }

pub returns : goal.returns
returns c =
    all_pieces _ _ _ _ (either_empty_from_Zip c.loop-byte.byte-iterator c.next.new.self
    c.next.result c.in-None.is c.next.ensures.steps) c.loop-byte.invariant.made
