use Rattle.std.proofs.Common.{◌<◌, arith, rules}
use Rattle.tok_buffer.specs.Cursors.{place_of}
use Rattle.tok_buffer.specs.Progress.{remaining}
use Rattle.outline.proofs.find.+find.Goals as goal

pub loop-attribute-preserved-in-Some : goal.loop-attribute-preserved-in-Some
loop-attribute-preserved-in-Some t c =
    let less : remaining (place_of c.in-Some.after) < remaining (place_of c.loop-attribute.rest) =
    search rules in
    omega (arith, less, c.loop-attribute.invariant)

pub loop-attribute-smaller-in-Some-any_group : goal.loop-attribute-smaller-in-Some-any_group
loop-attribute-smaller-in-Some-any_group t c =
    c.entries_go_on.ensures.any_groups.lowers _ _ c.in-Some-any_group.ensures

pub loop-attribute-preserved-in-Some-any_group : goal.loop-attribute-preserved-in-Some-any_group
loop-attribute-preserved-in-Some-any_group t c =
    omega (
      arith,
      c.entries_go_on.ensures.any_groups.lowers _ _ c.in-Some-any_group.ensures,
      c.loop-attribute.invariant,
    )
