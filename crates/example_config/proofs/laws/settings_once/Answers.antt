use Rattle.std.proofs.Common.{◌∙◌, sym}
use Rattle.syn_parse.proofs.Shapes.{found_first}
use Rattle.example_config.proofs.Grammar.{settings_taken}
use Rattle.example_config.proofs.laws.settings_once.Goals as goal

pub returns : goal.returns
returns c = λ trees left right h k.
    found_first (sym (settings_taken h) ∙ settings_taken k)
