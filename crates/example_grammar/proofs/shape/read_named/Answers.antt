use Rattle.std.proofs.Common.{rules}
use Rattle.syn_punctuated.proofs.ListTakes.{list_keeps}
use Rattle.example_grammar.specs.Shapes.{named_field}
use Rattle.example_grammar.proofs.shape.read_named.Goals as goal

pub returns : goal.returns
returns c = search (rules, list_keeps named_field c.parse_terminated_with.ensures.turns)
