use Rattle.syn_punctuated.proofs.WithValue.{writes_with_value}
use Rattle.example_callers.proofs.punctuated.raise_first.Goals as goal

pub returns : goal.returns
returns c =
    let written = writes_with_value c.args.list.now 0 9 c.requires in
    record { values = written.0; separators = written.1 }
