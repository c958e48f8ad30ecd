use Rattle.std.proofs.Common.{◌∙◌, sym, ap, false}
use Rattle.tok_core.specs.Clear.{ends_joint}
use Rattle.tok_core.proofs.Clears.{ends_joint_last}
use Rattle.tok_core.proofs.invisible.ends_joint.Goals as goal

pub returns-in-len1-up : goal.returns-in-len1-up
returns-in-len1-up c =
    c.is_joint_apostrophe.ensures
    ∙ sym (ends_joint_last c.trees.result.now c.last-item.result c.in-len1-up.len_at_least
    c.last-item.is) ∙ ap (ends_joint false) c.trees.ensures
