use Rattle.std.proofs.Common.{map, take}
use Rattle.std.specs.Fmt.{HasWritten, IsPlainFormatter}
use Rattle.std.specs.List.{flat_map}
use Rattle.syn_replay.specs.ReportText.{piece_text}
use Rattle.syn_replay.specs.Meanings.{piece_of}
use Rattle.syn_replay.proofs.report.print.write_more.Given as goal

abbrev pub invariant-loop-piece : goal.invariant-loop-piece
invariant-loop-piece g l =
    IsPlainFormatter l.initial.f
    → HasWritten g.W.Write.write_str_gives l.initial.f
    (flat_map piece_text (map piece_of (take l.piece-index l.pieces))) l.f
