use Rattle.std.proofs.Common.{◌+◌, ◌*◌}
use Rattle.tok_buffer.specs.Progress.{remaining}
use Rattle.example_callers.proofs.lists.+parsing.Given as goal

abbrev pub decreases-parse_item-within : goal.decreases-parse_item-within
decreases-parse_item-within l = 4 * remaining l.content.now.place + 4

abbrev pub decreases-parse_items-parse_terminated_with :
    goal.decreases-parse_items-parse_terminated_with
decreases-parse_items-parse_terminated_with l = 4 * remaining l.stream.now.place + 2

abbrev pub decreases-parse_item : goal.decreases-parse_item
decreases-parse_item l = 4 * remaining l.input.now.place + 1

abbrev pub decreases-parse_items : goal.decreases-parse_items
decreases-parse_items l = 4 * remaining l.input.now.place + 3
