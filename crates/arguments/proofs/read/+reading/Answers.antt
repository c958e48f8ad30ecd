use Rattle.std.proofs.Common.{arith}
use Rattle.syn_parse.proofs.GroupTakes.{at-states}
use Rattle.syn_parse.specs.Takings.{Keeps}
use Rattle.syn_punctuated.proofs.ListTakes.{punctuated_keeps}
use Rattle.arguments.specs.Forms.{argument_form}
use Rattle.arguments.specs.Reading.{TakesIfOk, argument, argument_again, take_argument}
use Rattle.arguments.proofs.Formed.{form_argument}
use Rattle.arguments.proofs.Returned.{arguments_returned}
use Rattle.arguments.proofs.read.+reading.Goals as goal

pub read_arguments-returns-clause-value : goal.read_arguments-returns-clause-value
read_arguments-returns-clause-value t c =
    arguments_returned
    (λ f g s u r k. at-states (TakesIfOk argument_form take_argument) _ _ s u r k.shows k.leaves
    k.called.met.0) c.ends_tell.ensures c.parse_terminated_with-list.ensures.turns

pub read_arguments-returns-clause-keeps : goal.read_arguments-returns-clause-keeps
read_arguments-returns-clause-keeps t c =
    punctuated_keeps argument c.parses_go_on.ensures
    (λ f g s u r k. at-states (Keeps argument) _ _ s u r k.shows k.leaves k.called.met.1)
    c.parse_terminated_with-list.ensures.turns

pub read_argument-returns-in_err-value-clause-keeps :
    goal.read_argument-returns-in_err-value-clause-keeps
read_argument-returns-in_err-value-clause-keeps t c =
    let value = c.in_err-value.ensures.keeps c.in_ok-name.name in
    grind (arith, argument_again, value)

pub read_argument-returns-clause-value : goal.read_argument-returns-clause-value
read_argument-returns-clause-value t c =
    let value = c.in_ok-value.ensures.value c.in_ok-name.name in
    grind (arith, argument_again, form_argument, value)

pub read_argument-returns-clause-keeps : goal.read_argument-returns-clause-keeps
read_argument-returns-clause-keeps t c =
    let value = c.in_ok-value.ensures.keeps c.in_ok-name.name in
    grind (arith, argument_again, form_argument, value)
