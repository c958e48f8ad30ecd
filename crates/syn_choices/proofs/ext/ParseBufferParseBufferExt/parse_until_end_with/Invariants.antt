use Rattle.std.proofs.Common.{◌≡◌, false, true}
use Rattle.std.specs.Fn.{CalledAtMut}
use Rattle.std.specs.Prelude.{Some, not}
use Rattle.tok_buffer.specs.Place.{is_at_end}
use Rattle.syn_parse.specs.TreesAhead.{is_spent}
use Rattle.syn_choices.proofs.CallLoops.{Turned}
use Rattle.syn_choices.proofs.ext.ParseBufferParseBufferExt.parse_until_end_with.Given as goal

abbrev pub invariant-loop-start : goal.invariant-loop-start
invariant-loop-start g l =
    Turned (λ p. is_at_end p ≡ false) (λ p. is_at_end p ≡ true) (CalledAtMut g.F.FnMut) l.fn.parser
    l.fn.self (Some (λ a. not (is_spent a))) true l.values.items l.parser l.self l.turns

abbrev pub decreases-loop-start : goal.decreases-loop-start
decreases-loop-start g l = l.turns
