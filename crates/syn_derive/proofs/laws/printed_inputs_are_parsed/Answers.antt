use Rattle.syn_derive.proofs.Again.Values.{whole_inputs}
use Rattle.syn_derive.proofs.Grammar.Items.{parses_input}
use Rattle.syn_derive.proofs.laws.printed_inputs_are_parsed.Goals as goal

pub returns : goal.returns
returns c = λ f g trees input scope result is same filled k.
    whole_inputs f g trees input result is same (parses_input trees scope result (k filled))
