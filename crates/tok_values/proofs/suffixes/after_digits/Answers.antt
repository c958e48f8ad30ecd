use Rattle.std.proofs.Common.{sym}
use Rattle.tok_values.proofs.Endings.{after_skips}
use Rattle.tok_values.proofs.suffixes.after_digits.Goals as goal

pub returns : goal.returns
returns c = let (digits, s) = c.past_digits.ensures in sym (after_skips c.args.radix _ digits _ s)
