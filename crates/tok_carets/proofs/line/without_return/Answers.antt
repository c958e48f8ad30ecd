use Rattle.std.proofs.Common.{arith}
use Rattle.std.proofs.lemmas.Str.Pattern.{strip_suffix_char}
use Rattle.tok_carets.proofs.Lines.{stripped, unstripped}
use Rattle.tok_carets.proofs.line.without_return.Goals as goal

pub returns-in-Some : goal.returns-in-Some
returns-in-Some c =
    let line = c.args.line.now in
    let ends = strip_suffix_char 13 line c.strip_suffix.result c.strip_suffix.ensures.cases
    (omega arith) in
    stripped line c.in-Some.front.now c.utf8.line (rw c.in-Some.is at ends)

pub returns-in-None : goal.returns-in-None
returns-in-None c = unstripped c.args.line.now c.utf8.line c.in-None.ensures.cases
