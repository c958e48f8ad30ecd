use Rattle.std.proofs.Common.{◌∙◌, ◌≡◌, ◌<◌, ◌≤◌, ap, length, sym, subst, true}
use Rattle.std.proofs.lemmas.Str.{is_utf8-from_IsUtf8}
use Rattle.std.specs.Prelude.{take}
use Rattle.std.specs.Str.{is_utf8}
use Rattle.tok_leaves.proofs.Kept.{front}
use Rattle.tok_leaves.proofs.text.Text.medium.Goals as goal

pub invariant_of-result : goal.invariant_of-result
invariant_of-result c =
    let kept = front _ _ _ (c.copy_from_slice.ensures.after ∙ c.as_bytes.ensures.value) in
    subst (λ block. (block.len ≤ 47) × (is_utf8 (take block.len block.bytes) ≡ true)
    × (14 < length (take block.len block.bytes)))
    (sym c.in_ok-new.ensures.ok) (
      c.requires.short,
      ap is_utf8 kept ∙ is_utf8-from_IsUtf8 _ c.utf8.text,
      subst (λ bytes. 14 < length bytes) (sym kept) c.requires.long,
    )

pub returns : goal.returns
returns c = ap (λ block. take block.len block.bytes) c.in_ok-new.ensures.ok
    ∙ front _ _ _ (c.copy_from_slice.ensures.after ∙ c.as_bytes.ensures.value)
