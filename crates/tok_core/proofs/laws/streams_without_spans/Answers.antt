use Rattle.tok_core.specs.Private.Alikes.{alike_decides, forest_input_spanless}
use Rattle.tok_core.proofs.laws.streams_without_spans.Goals as goal

pub returns-clause-equal : goal.returns-clause-equal
returns-clause-equal c left right = alike_decides left.0.now right.0.now

pub returns-clause-hash : goal.returns-clause-hash
returns-clause-hash c value = forest_input_spanless value.0.now
