use Rattle.std.proofs.Common.{◌≡◌, ◌∙◌, sym, get_or, arith, rules, tests}
use Rattle.tok_lexical.specs.declared.start.TheConstants.{ASCII}
use Rattle.tok_lexical.specs.declared.start.Start.TheVariants.{Rest}
use Rattle.tok_lexical.proofs.Starts.{start_by, meant}
use Rattle.tok_lexical.proofs.start.Start.of.Goals as goal

pub returns-in_default : goal.returns-in_default
returns-in_default c =
    let none : meant (get_or ASCII c.args.c 0) ≡ Rest = search (rules, tests) in
    sym (start_by c.args.c (omega arith) ∙ none)
