use Rattle.std.proofs.Common.{subst}
use Rattle.tok_values.specs.Values.{HasValue}
use Rattle.example_config.proofs.read.number_value.Goals as goal

pub returns-in-Err : goal.returns-in-Err
returns-in-Err c = λ wanted h a.
    c.no_number.ensures wanted (subst (HasValue wanted) c.in-Err.is h) a
