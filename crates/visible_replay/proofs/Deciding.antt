-- Two pruned forests with equal visible trees differ in no empty group.
use Rattle.std.proofs.Common.{◌≡◌}
use Rattle.tok_core.specs.Erase.{erase}
use Rattle.tok_core.specs.Forest.{Forest}
use Rattle.tok_pruned.specs.Pruned.{pruned}
use Rattle.tok_pruned.proofs.Pruning.{erase_pruned, filled_pruned}
use Rattle.syn_replay.specs.Transparent.{DifferInInvisibleGroups}

pub differ_pruned : (left right : Forest) → erase left ≡ erase right
    → DifferInInvisibleGroups (pruned left) (pruned right)
differ_pruned left right same = record {
  visible = rw (erase_pruned left, erase_pruned right) same;
  left_filled = filled_pruned left;
  right_filled = filled_pruned right;
}
