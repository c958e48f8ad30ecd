use Rattle.std.proofs.Common.{arith}
use Rattle.std.proofs.lemmas.Option.{slice_get_within}
use Rattle.example_callers.proofs.punctuated.raise_last.Goals as goal

pub returns-in-Some : goal.returns-in-Some
returns-in-Some c =
    let written = c.last_mut.follows.holds 8 in grind (arith, slice_get_within)
