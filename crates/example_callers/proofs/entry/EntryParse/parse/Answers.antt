use Rattle.std.proofs.Common.{arith}
use Rattle.syn_parse.proofs.GroupTakes.{at-states}
use Rattle.syn_parse.specs.Takes.{Takes}
use Rattle.syn_parse.specs.Tokens.{take_ident}
use Rattle.example_callers.proofs.entry.EntryParse.parse.Goals as goal

pub returns-in_err-tail-clause-takes : goal.returns-in_err-tail-clause-takes
returns-in_err-tail-clause-takes c =
    let group =
    c.in_err-tail.ensures.takes tt take_ident
    (λ s r t l h. at-states (Takes take_ident) _ _ s t r h.shows h.leaves h.met) in
    grind (arith, group)

pub returns-clause-takes : goal.returns-clause-takes
returns-clause-takes c =
    let group =
    c.in_ok-tail.ensures.takes tt take_ident
    (λ s r t l h. at-states (Takes take_ident) _ _ s t r h.shows h.leaves h.met) in
    grind (arith, group)
