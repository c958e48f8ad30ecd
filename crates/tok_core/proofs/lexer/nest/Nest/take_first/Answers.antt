use Rattle.tok_core.proofs.Lexical.Cuts.{all_tried, ends_in_other}
use Rattle.tok_core.proofs.lexer.nest.Nest.take_first.Goals as goal

pub take-requires-clause-found : goal.take-requires-clause-found
take-requires-clause-found g c = c.in-Some.ensures.told.1 c.args.mode

pub take-requires-in-Some-past_told_punct-clause-found :
    goal.take-requires-in-Some-past_told_punct-clause-found
take-requires-in-Some-past_told_punct-clause-found g c =
    c.in-Some-past_told_punct.ensures.told.1 c.args.mode

pub unreachable-requires : goal.unreachable-requires
unreachable-requires g c = c.requires.some
    (all_tried _ _ (ends_in_other c.args.mode) c.in_default-first_rule.ensures.tries)
