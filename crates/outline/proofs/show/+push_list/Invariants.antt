use denote.Text.{Utf8}
use denote.Shadow.{shadow}
use Rattle.outline.proofs.show.+push_list.Given as goal

abbrev pub invariant-loop-argument : goal.invariant-loop-argument
invariant-loop-argument l = shadow (Utf8 l.comma)

abbrev pub decreases-push_list : goal.decreases-push_list
decreases-push_list l = l.depth
