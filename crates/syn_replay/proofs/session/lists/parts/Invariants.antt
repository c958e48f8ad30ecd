use Rattle.std.proofs.Common.{◌≡◌, ◌++◌, length, map}
use Rattle.std.specs.List.{flat_map}
use Rattle.syn_punctuated.specs.Lists.{values_of, separators_of}
use Rattle.syn_punctuated.specs.Paired.{paired}
use Rattle.syn_replay.specs.Session.Reading.{pair_parts}
use Rattle.syn_replay.specs.Meanings.{pieces_in}
use Rattle.syn_replay.proofs.session.lists.parts.Given as goal

abbrev pub invariant-loop-pair : goal.invariant-loop-pair
invariant-loop-pair g l = record {
  rest : map pieces_in l.parts.items ++ flat_map (pair_parts l.text) l.pairs ≡ flat_map
      (pair_parts l.text) (paired (values_of l.fn.list) (separators_of l.fn.list));
}

abbrev pub decreases-loop-pair : goal.decreases-loop-pair
decreases-loop-pair g l = length l.pairs
