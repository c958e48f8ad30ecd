use Rattle.std.proofs.Common.{◌≡◌, sym, subst, true}
use Rattle.std.proofs.lemmas.Str.{IsUtf8-from_is_utf8}
use Rattle.std.specs.Prelude.{take}
use Rattle.std.specs.Str.{is_utf8}
use Rattle.tok_leaves.specs.Private.Kept.{IsKept}
use Rattle.tok_leaves.proofs.text.Text.as_str.Goals as goal

pub from_utf8_unchecked-requires : goal.from_utf8_unchecked-requires
from_utf8_unchecked-requires c =
    IsUtf8-from_is_utf8 _ (subst IsKept c.in-Short.is c.self.invariant).1

pub from_utf8_unchecked-requires-in-Medium : goal.from_utf8_unchecked-requires-in-Medium
from_utf8_unchecked-requires-in-Medium c = IsUtf8-from_is_utf8 _
    (subst (λ block. is_utf8 (take block.len block.bytes) ≡ true) (sym c.deref-block.ensures)
    (subst IsKept c.in-Medium.is c.self.invariant).1)
