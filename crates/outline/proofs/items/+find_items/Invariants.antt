use Rattle.std.proofs.Common.{◌*◌, ◌+◌, ◌≤◌}
use Rattle.tok_buffer.specs.Progress.{remaining}
use Rattle.outline.proofs.items.+find_items.Given as goal

abbrev pub decreases-find_items : goal.decreases-find_items
decreases-find_items l = 2 * remaining l.input.now.place + 1

abbrev pub decreases-find_inside : goal.decreases-find_inside
decreases-find_inside l = 2 * remaining l.input.now.place

abbrev pub invariant-find_items-items : goal.invariant-find_items-items
invariant-find_items-items l = remaining l.input.place ≤ remaining l.fn.input.place

abbrev pub decreases-find_items-items : goal.decreases-find_items-items
decreases-find_items-items l = remaining l.input.place + l.left
