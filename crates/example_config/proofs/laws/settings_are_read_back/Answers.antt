use Rattle.example_config.proofs.ReadBack.{are_read_back}
use Rattle.example_config.proofs.Returned.{are_of_text}
use Rattle.example_config.proofs.laws.settings_are_read_back.Goals as goal

pub returns-clause-of_text : goal.returns-clause-of_text
returns-clause-of_text c = are_of_text c.values_are_functions.ensures.strings

pub returns-clause-read_back : goal.returns-clause-read_back
returns-clause-read_back c = λ settings source result of_text reads.
    are_read_back source c.strings_keep_text.ensures c.strings_are_read.ensures
    c.values_are_functions.ensures.strings c.values_are_functions.ensures.integers settings result
    of_text reads
