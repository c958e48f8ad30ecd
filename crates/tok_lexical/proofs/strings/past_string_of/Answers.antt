use Rattle.std.proofs.Common.{[]}
use Rattle.tok_lexical.proofs.Units.{reaches_first, reaches_units, takes_string, open_string}
use Rattle.tok_lexical.proofs.strings.past_string_of.Goals as goal

pub loop-after-init : goal.loop-after-init
loop-after-init c = (
  c.in_ok-start.ensures.utf8,
  (_, [], c.in_ok-start.ensures.chars, reaches_first c.args.contents _),
)

pub loop-after-preserved : goal.loop-after-preserved
loop-after-preserved c = let i = c.loop-after.invariant.1 in (
  c.in-Some.ensures.utf8,
  (
    i.0,
    _,
    i.2,
    reaches_units c.args.contents i.0 _ _ i.1 _ i.3 c.in-Some.ensures.finds.2
        c.in-Some.ensures.finds.1,
  ),
)

pub returns-clause-tries : goal.returns-clause-tries
returns-clause-tries c = let i = c.loop-after.invariant.1 in (
  _,
  takes_string c.args.contents _ i.0 _ _ _ i.1 _ i.2 i.3 c.in_default.ensures.finds
      c.in_ok-end.ensures.chars c.past_suffix.ensures.1,
)

pub returns-in_err-end-clause-tries : goal.returns-in_err-end-clause-tries
returns-in_err-end-clause-tries c = let i = c.loop-after.invariant.1 in
    rw c.from_residual-in_err-end.ensures
    (open_string c.args.contents _ i.0 _ i.1 i.2 i.3 c.in_default.ensures.finds
    c.in_err-end.ensures.chars)
