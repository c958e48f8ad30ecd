use Rattle.std.proofs.Common.{◌+◌, ◌*◌, ◌≤◌}
use Rattle.tok_buffer.specs.Progress.{remaining}
use Rattle.example_callers.proofs.Nested.{CountsOn}
use Rattle.example_callers.proofs.streams.+nested.Given as goal

abbrev pub decreases-count_names : goal.decreases-count_names
decreases-count_names l = 3 * remaining l.input.now.place

abbrev pub decreases-count_names-within : goal.decreases-count_names-within
decreases-count_names-within l = 3 * remaining l.content.now.place + 2

abbrev pub decreases-count_all : goal.decreases-count_all
decreases-count_all l = 3 * remaining l.input.now.place + 1

abbrev pub invariant-count_all-loop-input : goal.invariant-count_all-loop-input
invariant-count_all-loop-input l =
    (remaining l.input.place ≤ remaining l.fn.input.place)
    × CountsOn l.fn.input l.input l.count

abbrev pub decreases-count_all-loop-input : goal.decreases-count_all-loop-input
decreases-count_all-loop-input l = remaining l.input.place
