use Rattle.std.proofs.Common.{◌≡◌, ◌++◌}
use Rattle.std.specs.Prelude.{string_bytes}
use Rattle.syn_derive.specs.Arguments.{path_text, segments_text}
use Rattle.syn_derive.proofs.path.Path.text.Given as goal

abbrev pub invariant-loop-segment : goal.invariant-loop-segment
invariant-loop-segment l =
    (goal.iterator-loop-segment).can_next l.segment-iterator
    × (goal.iterator-loop-segment).is_finite l.segment-iterator
    × (string_bytes l.text ++ segments_text l.after l.segment-iterator ≡ path_text l.fn.self)
