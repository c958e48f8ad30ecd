use Rattle.std.specs.Fn.{FnOnceReturnsAtMut}
use Rattle.syn_parse.proofs.GroupTakes.{at-states}
use Rattle.syn_parse.specs.Takings.{Keeps}
use Rattle.arguments.specs.Reading.{arguments}
use Rattle.syn_tokens_c.proofs.Judging.{arguments_of_entries}
use Rattle.syn_tokens_c.proofs.judge.arguments.Goals as goal

pub returns : goal.returns
returns c =
    arguments_of_entries c.args.entries.now c.args.texts.now (FnOnceReturnsAtMut _ _)
    (λ s t r h. at-states (Keeps arguments) _ _ s t r h.shows h.leaves h.met)
    c.pruning_fills.ensures _ c.parse_entries.ensures
