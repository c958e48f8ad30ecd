use Rattle.std.proofs.Common.{◌≡◌, false, true}
use Rattle.std.specs.Prelude.{Some, not}
use Rattle.tok_buffer.specs.Place.{is_at_end}
use Rattle.syn_parse.proofs.Loopings.{Turned}
use Rattle.syn_parse.specs.Many.{where_filled}
use Rattle.syn_parse.specs.TreesAhead.{is_spent}
use Rattle.syn_parse.proofs.stream.ParseBuffer.parse_until_end.Given as goal

abbrev pub invariant-loop-values : goal.invariant-loop-values
invariant-loop-values g l =
    Turned (λ p. is_at_end p ≡ false) (λ p. is_at_end p ≡ true) g.T.Parse.parses
    (Some (λ a. not (is_spent a))) (where_filled g.T.Parse.takes) l.fn.self l.values.items l.self
    l.turns

abbrev pub decreases-loop-values : goal.decreases-loop-values
decreases-loop-values g l = l.turns
