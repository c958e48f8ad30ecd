use Rattle.std.proofs.Common.{◌∙◌, sym, ap}
use Rattle.tok_lexical.specs.Starts.{begins_punct}
use Rattle.tok_lexical.proofs.Starts.{punct_by, no_punct_begins}
use Rattle.tok_lexical.proofs.start.begins_punct.Goals as goal

pub returns-in-Some : goal.returns-in-Some
returns-in-Some c =
    punct_by c.in-Some.first c.in-Some.ensures.ascii
    ∙ sym (ap begins_punct c.in-Some.ensures.chars)

pub returns-in-None : goal.returns-in-None
returns-in-None c = no_punct_begins _ c.in-None.ensures.chars
