use Rattle.std.proofs.Common.{map, take}
use Rattle.std.specs.Fmt.{HasWritten, IsPlainFormatter}
use Rattle.std.specs.List.{flat_map}
use Rattle.syn_replay.specs.ReportText.{part_text}
use Rattle.syn_replay.specs.Meanings.{pieces_in}
use Rattle.syn_replay.proofs.report.print.write_parts.Given as goal

abbrev pub invariant-loop-part : goal.invariant-loop-part
invariant-loop-part g l =
    IsPlainFormatter l.initial.f → HasWritten g.W.Write.write_str_gives l.initial.f
    (flat_map part_text (map pieces_in (take l.part-index l.part-items))) l.f
