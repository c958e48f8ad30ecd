use Rattle.example_config.proofs.Grammar.{settings_taken, sound}
use Rattle.example_config.proofs.laws.grammar_is_read.Goals as goal

pub returns : goal.returns
returns c = λ trees form. (λ h. (sound.taken trees _ form h).1, settings_taken)
