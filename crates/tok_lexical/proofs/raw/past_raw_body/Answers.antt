use Rattle.tok_lexical.proofs.RawStrings.{stands_run, stands_quote, stands_found, stands_none}
use Rattle.tok_lexical.proofs.raw.past_raw_body.Goals as goal

pub returns-in-Some-past_same-clause-finds : goal.returns-in-Some-past_same-clause-finds
returns-in-Some-past_same-clause-finds c =
    let i = c.loop-after.invariant.1 in
    let run = c.past_others.ensures.skips in
    stands_found _ _ _ _ _ _ (stands_run _ _ _ _ i.0 run.0 i.1 run.1)
    c.in-Some.ensures.chars c.in-Some-past_same.ensures.chars

pub loop-after-preserved : goal.loop-after-preserved
loop-after-preserved c =
    let i = c.loop-after.invariant.1 in
    let run = c.past_others.ensures.skips in (
      c.in-Some.ensures.utf8,
      (
        _,
        stands_quote _ _ _ _ _ (stands_run _ _ _ _ i.0 run.0 i.1 run.1)
            c.in-Some.ensures.chars c.in_default-past_same.ensures.chars,
      ),
    )

pub returns-clause-finds : goal.returns-clause-finds
returns-clause-finds c =
    let i = c.loop-after.invariant.1 in
    let run = c.past_others.ensures.skips in
    stands_none _ _ _ _ (stands_run _ _ _ _ i.0 run.0 i.1 run.1) run.1.stops
    c.in_default.ensures.chars
