use Rattle.std.specs.Fn.{FnOnceReturnsAtMut}
use Rattle.syn_parse.proofs.GroupTakes.{at-states}
use Rattle.syn_parse.specs.Takings.{Keeps}
use Rattle.example_fields.specs.Inputs.{input}
use Rattle.example_fields.proofs.Reading.{input_of_entries}
use Rattle.example_fields.proofs.read.input.Goals as goal

pub returns : goal.returns
returns c =
    input_of_entries c.args.entries.now c.args.texts.now (FnOnceReturnsAtMut _ _)
    (λ s t r h. at-states (Keeps input) _ _ s t r h.shows h.leaves h.met) c.pruning_fills.ensures
    _ c.parse_entries.ensures
