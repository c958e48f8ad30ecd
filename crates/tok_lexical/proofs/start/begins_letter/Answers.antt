use Rattle.std.proofs.Common.{◌∙◌, sym, ap}
use Rattle.tok_lexical.specs.Starts.{begins_letter}
use Rattle.tok_lexical.proofs.Starts.{letter_by, no_letter_begins}
use Rattle.tok_lexical.proofs.start.begins_letter.Goals as goal

pub returns-in-Some : goal.returns-in-Some
returns-in-Some c =
    letter_by c.in-Some.first c.in-Some.ensures.ascii
    ∙ sym (ap begins_letter c.in-Some.ensures.chars)

pub returns-in-None : goal.returns-in-None
returns-in-None c = no_letter_begins _ c.in-None.ensures.chars
