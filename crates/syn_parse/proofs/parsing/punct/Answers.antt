use Rattle.std.proofs.Common.{arith}
use Rattle.std.proofs.lemmas.Grind.{common_steps}
use Rattle.std.proofs.lemmas.List.{length-replicate}
use Rattle.syn_parse.proofs.Puncts.{puncts-read, same_length_sized, other_length_sized}
use Rattle.syn_parse.proofs.parsing.punct.Goals.{then-text, else-text}
use Rattle.syn_parse.proofs.parsing.punct.Goals as goal

pub returns-in-Some : goal.returns-in-Some
returns-in-Some g c =
    grind (
      arith,
      common_steps,
      then-text,
      same_length_sized,
      length-replicate,
      else-text,
      other_length_sized,
      puncts-read,
    )
