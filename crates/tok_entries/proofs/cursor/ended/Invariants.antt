use Rattle.std.proofs.Common.{◌≡◌, ◌+◌, ◌-◌, ◌≤◌, length, drop}
use Rattle.std.specs.List.{prefix_len}
use Rattle.tok_entries.specs.Cursor.{is_invisible_closing}
use Rattle.tok_entries.proofs.cursor.ended.Given as goal

abbrev pub invariant-loop-count : goal.invariant-loop-count
invariant-loop-count l =
    (prefix_len is_invisible_closing l.entries
    ≡ l.count + prefix_len is_invisible_closing (drop l.count l.entries))
    × (l.count ≤ length l.entries)

abbrev pub decreases-loop-count : goal.decreases-loop-count
decreases-loop-count l = length l.entries - l.count
