use Rattle.std.proofs.Common.{◌≡◌, ◌+◌, ◌++◌, drop, length, string_bytes}
use Rattle.tok_core.specs.Seen.{tree_of, trees_of}
use Rattle.tok_core.specs.Weight.{weight, tree_weight}
use Rattle.tok_entries.specs.Entries.{BeginsWith, entries, texts}
use Rattle.tok_entries.proofs.writing.+write.Given as goal

abbrev pub decreases-write_entries : goal.decreases-write_entries
decreases-write_entries l = weight l.stream.now + 1

abbrev pub decreases-write_tree : goal.decreases-write_tree
decreases-write_tree l = tree_weight (tree_of l.next.now)

abbrev pub invariant-write_entries-loop-next : goal.invariant-write_entries-loop-next
invariant-write_entries-loop-next l =
    (l.entries.items ++ entries (length (string_bytes l.texts))
    (trees_of (drop l.next-index l.next-items))
    ≡ l.initial.entries.items
    ++ entries (length (string_bytes l.initial.texts)) (trees_of l.next-items))
    × (string_bytes l.texts ++ texts (trees_of (drop l.next-index l.next-items))
    ≡ string_bytes l.initial.texts ++ texts (trees_of l.next-items))
    × BeginsWith l.entries.items l.initial.entries.items
    × BeginsWith (string_bytes l.texts) (string_bytes l.initial.texts)
