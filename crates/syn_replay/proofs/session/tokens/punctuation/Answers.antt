use Rattle.std.proofs.Common.{arith}
use Rattle.syn_replay.proofs.Walk.Pieces.{sized_same, sized_short}
use Rattle.syn_replay.proofs.session.tokens.punctuation.Goals as goal
use Rattle.std.proofs.lemmas.Grind.{common_steps}

pub puncts-requires-in_default-clause-length : goal.puncts-requires-in_default-clause-length
puncts-requires-in_default-clause-length c =
    grind (arith, common_steps, sized_short, c.requires.short)

pub puncts-requires-clause-length : goal.puncts-requires-clause-length
puncts-requires-clause-length c = sized_same 3 c.args.text.now c.in-3.is

pub puncts-requires-in-2-clause-length : goal.puncts-requires-in-2-clause-length
puncts-requires-in-2-clause-length c = sized_same 2 c.args.text.now c.in-2.is
