use denote.Text.{Utf8}
use denote.Shadow.{shadow}
use Rattle.outline.proofs.show.push_path.Given as goal

abbrev pub invariant-loop-segment : goal.invariant-loop-segment
invariant-loop-segment l = shadow (Utf8 l.before)
