use Rattle.std.proofs.Common.{◌≡◌, ◌≤◌, length, take}
use Rattle.std.specs.Prelude.{vec_capacity, vec_len}
use Rattle.tok_core.specs.Seen.{trees_of}
use Rattle.tok_core.proofs.+clone.Given as goal

abbrev pub invariant-stream::TokenStreamClone::clone-loop-next :
    goal.invariant-stream::TokenStreamClone::clone-loop-next
invariant-stream::TokenStreamClone::clone-loop-next l = record {
  copied : l.trees.items ≡ take l.next-index l.next-items;
  whole : trees_of l.next-items ≡ l.self;
  count : vec_len l.trees ≡ l.next-index;
  room : length l.next-items ≤ vec_capacity l.trees;
}
