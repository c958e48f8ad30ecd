use Rattle.tok_values.proofs.FloatValues.{decimals_have_their_value, floats_have_their_value}
use Rattle.tok_values.proofs.laws.floats_have_their_value.Goals as goal

pub returns-clause-floats : goal.returns-clause-floats
returns-clause-floats c = floats_have_their_value

pub returns-clause-decimals : goal.returns-clause-decimals
returns-clause-decimals c = decimals_have_their_value
