use Rattle.syn_replay.proofs.Views.Whole.{invisible_groups_do_not_matter}
use Rattle.syn_replay.proofs.laws.invisible_groups_do_not_matter.Goals as goal

pub returns : goal.returns
returns c = invisible_groups_do_not_matter
