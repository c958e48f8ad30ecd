use Rattle.std.proofs.Common.{rules}
use Rattle.tok_buffer.specs.Cursors.{place_of}
use Rattle.syn_literals.proofs.Told.{integer_seen}
use Rattle.syn_literals.proofs.integer.LitIntToken.peek.Goals as goal

pub returns-clause-sees : goal.returns-clause-sees
returns-clause-sees c = integer_seen (place_of c.args.cursor) _ (search rules)
