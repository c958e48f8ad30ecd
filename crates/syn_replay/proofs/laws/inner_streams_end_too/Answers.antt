use Rattle.syn_replay.proofs.Walk.Nesting.{inner_streams_end_too}
use Rattle.syn_replay.proofs.laws.inner_streams_end_too.Goals as goal

pub returns : goal.returns
returns c = inner_streams_end_too
