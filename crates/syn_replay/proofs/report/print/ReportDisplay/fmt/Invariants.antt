use Rattle.std.proofs.Common.{map, take}
use Rattle.std.specs.Fmt.{HasWritten, IsPlainFormatter}
use Rattle.std.specs.List.{flat_map}
use Rattle.syn_replay.specs.ReportText.{line_text, as_line}
use Rattle.syn_replay.specs.Meanings.{line_of}
use Rattle.syn_replay.proofs.report.print.ReportDisplay.fmt.Given as goal

abbrev pub invariant-loop-line : goal.invariant-loop-line
invariant-loop-line g l =
    IsPlainFormatter l.initial.f
    → HasWritten g.W.Write.write_str_gives l.initial.f
    (flat_map (λ x. as_line (line_text x)) (map line_of (take l.line-index l.line-items))) l.f
