use Rattle.std.proofs.Common.{◌≡◌, ◌++◌, ◌+◌, ◌≤◌, length, map}
use Rattle.std.specs.Prelude.{vec_capacity, vec_len}
use Rattle.std.specs.Iterator.Adapters.{zip_first, zip_second}
use Rattle.std.specs.Slice.Iter.{iter_rest}
use Rattle.syn_replay.specs.Session.Reading.{punct_pieces}
use Rattle.syn_replay.specs.Meanings.{piece_of}
use Rattle.syn_replay.proofs.session.pieces.characters.Given as goal

abbrev pub invariant-loop-byte : goal.invariant-loop-byte
invariant-loop-byte l = record {
  made : map piece_of l.pieces.items
      ++ punct_pieces (iter_rest (zip_first l.byte-iterator))
      (iter_rest (zip_second l.byte-iterator)) ≡ punct_pieces l.text l.spans;
  room : vec_len l.pieces + length (iter_rest (zip_first l.byte-iterator))
      ≤ vec_capacity l.pieces;
}
