use Rattle.std.proofs.Common.{◌∙◌, sym}
use Rattle.syn_parse.proofs.Shapes.{found_first}
use Rattle.syn_punctuated.proofs.Exactly.{takes}
use Rattle.syn_derive.proofs.Grammar.Items.{derive_input_exactly}
use Rattle.syn_derive.proofs.laws.inputs_once.Goals as goal

pub returns : goal.returns
returns c = λ trees left right h k.
    found_first (sym (takes derive_input_exactly h) ∙ takes derive_input_exactly k)
