use Rattle.std.proofs.Common.{◌∙◌, ap}
use Rattle.std.proofs.lemmas.Str.{is_utf8-from_IsUtf8}
use Rattle.std.specs.Str.{is_utf8}
use Rattle.tok_leaves.proofs.text.Text.front.Goals as goal

pub invariant_of-result : goal.invariant_of-result
invariant_of-result c =
    (c.requires.short, ap is_utf8 c.requires.front ∙ is_utf8-from_IsUtf8 _ c.utf8.piece)
