use Rattle.tok_pruned.specs.Pruned.{pruned}
use Rattle.syn_replay.proofs.Views.Whole.{invisible_groups_do_not_matter}
use Rattle.visible_replay.proofs.Deciding.{differ_pruned}
use Rattle.visible_replay.proofs.laws.visible_tokens_decide.Goals as goal

pub returns : goal.returns
returns c = λ left right commands same transparent.
    invisible_groups_do_not_matter (pruned left) (pruned right) commands
    (differ_pruned left right same) transparent
