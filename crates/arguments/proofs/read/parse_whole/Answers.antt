use Rattle.std.specs.Fn.{FnOnceReturnsAtMut}
use Rattle.tok_leaves.specs.Spans.{call_site}
use Rattle.syn_parse.proofs.GroupTakes.{at-states}
use Rattle.syn_parse.proofs.WholeTakes.{parser_keeps}
use Rattle.syn_parse.specs.Takings.{Keeps}
use Rattle.arguments.specs.Forms.{list_form}
use Rattle.arguments.specs.Reading.{TakesIfOk, arguments, take_arguments}
use Rattle.arguments.proofs.Returned.{whole_returned}
use Rattle.arguments.proofs.read.parse_whole.Goals as goal

pub returns-clause-value : goal.returns-clause-value
returns-clause-value c =
    whole_returned list_form take_arguments c.args.tokens call_site (FnOnceReturnsAtMut _ _)
    (λ s t r h. at-states (TakesIfOk list_form take_arguments) _ _ s t r h.shows h.leaves
    h.met.0) _ c.parse2.ensures

pub returns-clause-keeps : goal.returns-clause-keeps
returns-clause-keeps c =
    parser_keeps arguments c.args.tokens call_site (FnOnceReturnsAtMut _ _)
    (λ s t r h. at-states (Keeps arguments) _ _ s t r h.shows h.leaves h.met.1) _
    c.parse2.ensures
