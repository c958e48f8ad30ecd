use Rattle.std.proofs.Common.{◌∙◌, ap}
use Rattle.std.proofs.lemmas.Str.{is_utf8-from_IsUtf8}
use Rattle.std.specs.Str.{is_utf8}
use Rattle.tok_leaves.proofs.Kept.{front}
use Rattle.tok_leaves.proofs.text.Text.short.Goals as goal

pub invariant_of-result : goal.invariant_of-result
invariant_of-result c = (
  c.requires,
  ap is_utf8
      (front _ _ _ (c.copy_from_slice.ensures.after ∙ c.as_bytes.ensures.value))
      ∙ is_utf8-from_IsUtf8 _ c.utf8.text,
)

pub returns : goal.returns
returns c = front _ _ _ (c.copy_from_slice.ensures.after ∙ c.as_bytes.ensures.value)
