use Rattle.std.proofs.Common.{false, true}
use Rattle.std.specs.Fn.{CalledAtMut}
use Rattle.std.specs.Prelude.{option_map}
use Rattle.syn_choices.proofs.CallLoops.{Turned}
use Rattle.syn_choices.proofs.ext.ParseBufferParseBufferExt.parse_while_with.Given as goal

abbrev pub invariant-loop-start : goal.invariant-loop-start
invariant-loop-start g l =
    Turned (λ p. g.P.Token.peeks p true) (λ p. g.P.Token.peeks p false) (CalledAtMut g.F.FnMut)
    l.fn.parser l.fn.self (option_map (λ test a. test a.trees) g.P.Token.sees) false l.values.items
    l.parser l.self l.turns

abbrev pub decreases-loop-start : goal.decreases-loop-start
decreases-loop-start g l = l.turns
