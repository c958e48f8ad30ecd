use Rattle.syn_derive.proofs.Grammar.Items.{parses_input}
use Rattle.syn_derive.proofs.laws.inputs_follow_grammar.Goals as goal

pub returns : goal.returns
returns c = λ tokens scope result filled k. parses_input tokens scope result (k filled)
