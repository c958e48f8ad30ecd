use Rattle.std.proofs.Common.{rules}
use Rattle.tok_buffer.specs.Cursors.{place_of}
use Rattle.syn_literals.proofs.Told.{float_seen}
use Rattle.syn_literals.proofs.float.LitFloatToken.peek.Goals as goal

pub returns-clause-sees : goal.returns-clause-sees
returns-clause-sees c = float_seen (place_of c.args.cursor) _ (search rules)
