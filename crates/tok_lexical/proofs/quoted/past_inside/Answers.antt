use Rattle.std.proofs.Common.{[]}
use Rattle.tok_lexical.proofs.Units.{reaches_first, reaches_units}
use Rattle.tok_lexical.proofs.quoted.past_inside.Goals as goal

pub loop-after-init : goal.loop-after-init
loop-after-init c = (c.utf8.text, ([], reaches_first c.args.contents _))

pub loop-after-preserved : goal.loop-after-preserved
loop-after-preserved c = let i = c.loop-after.invariant.1 in (
  c.in-Some.ensures.utf8,
  (
    _,
    reaches_units c.args.contents _ _ _ i.0 _ i.1 c.in-Some.ensures.finds.2
        c.in-Some.ensures.finds.1,
  ),
)

pub returns-clause-stops : goal.returns-clause-stops
returns-clause-stops c = let i = c.loop-after.invariant.1 in
    (i.0, record { cut = i.1.cut; units = i.1.units; stops = c.in_default.ensures.finds })
