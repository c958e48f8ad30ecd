use Rattle.std.proofs.Common.{◌++◌, [], append_assoc, sym}
use Rattle.std.specs.Str.{chars}
use Rattle.std.proofs.lemmas.List.{append-nil}
use Rattle.tok_values.specs.CStrings.{c_unit}
use Rattle.tok_values.specs.Strings.{nothing}
use Rattle.tok_values.proofs.Units.{more_by}
use Rattle.tok_values.proofs.strings.push_c_bytes.Goals as goal

pub loop-after-init : goal.loop-after-init
loop-after-init c = (
  c.utf8.text,
  ([], nothing (chars c.args.text.now), sym (append-nil c.args.to.now.items)),
)

pub loop-after-preserved : goal.loop-after-preserved
loop-after-preserved c =
    let i = c.loop-after.invariant.1 in
    let found = rw c.in-Some.is at c.in_ok-after.ensures.value in (
      rw c.in-Some.is at c.in_ok-after.ensures.utf8,
      (
        i.0 ++ found.0,
        more_by c_unit _ _ _ i.0 found.0 i.1 found.1,
        cc (i.2, found.2, append_assoc c.args.to.now.items i.0 found.0),
      ),
    )
