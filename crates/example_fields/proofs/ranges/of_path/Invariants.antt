use Rattle.std.proofs.Common.{◌≡◌}
use Rattle.syn_derive.specs.Paths.{path_form}
use Rattle.example_fields.specs.Ranges.{leading_ends, segments_after}
use Rattle.example_fields.proofs.ranges.of_path.Given as goal

abbrev pub invariant-loop-segment : goal.invariant-loop-segment
invariant-loop-segment l =
    (goal.iterator-loop-segment).can_next l.segment-iterator
    × (goal.iterator-loop-segment).is_finite l.segment-iterator
    × (segments_after l.ends l.segment-iterator
    ≡ segments_after (leading_ends (path_form l.fn.path).0) (path_form l.fn.path).1.0)
