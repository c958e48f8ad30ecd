use Rattle.std.proofs.Common.{false, true}
use Rattle.std.specs.Prelude.{option_map}
use Rattle.syn_parse.proofs.Loopings.{Turned}
use Rattle.syn_parse.proofs.stream.ParseBuffer.parse_while.Given as goal

abbrev pub invariant-loop-values : goal.invariant-loop-values
invariant-loop-values g l =
    Turned (λ p. g.P.Token.peeks p true) (λ p. g.P.Token.peeks p false) g.T.Parse.parses
    (option_map (λ test a. test a.trees) g.P.Token.sees) g.T.Parse.takes l.fn.self l.values.items
    l.self l.turns

abbrev pub decreases-loop-values : goal.decreases-loop-values
decreases-loop-values g l = l.turns
