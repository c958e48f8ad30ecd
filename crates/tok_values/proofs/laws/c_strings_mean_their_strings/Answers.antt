use Rattle.tok_values.proofs.CAgreeing.{c_strings_agree}
use Rattle.tok_values.proofs.laws.c_strings_mean_their_strings.Goals as goal

pub returns : goal.returns
returns c = c_strings_agree
