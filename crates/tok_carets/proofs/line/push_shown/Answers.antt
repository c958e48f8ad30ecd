use Rattle.std.proofs.Common.{◌∙◌}
use Rattle.tok_carets.proofs.Lines.{all_pushed, tab_pushed}
use Rattle.tok_carets.proofs.line.push_shown.Goals as goal

pub returns-in_default : goal.returns-in_default
returns-in_default c =
    let (front, skips) = c.past_others-tab.ensures.skips in
    all_pushed _ front _ _ _ _ skips (c.front_of.ensures.bytes front skips.cut)
    c.in_ok-push_str.ensures.bytes c.in_default.ensures.chars
    ∙ c.loop-after.invariant.1

pub loop-after-preserved : goal.loop-after-preserved
loop-after-preserved c =
    let (front, skips) = c.past_others-tab.ensures.skips in (
      c.in-Some.ensures.utf8,
      tab_pushed _ front _ _ _ _ skips (c.front_of.ensures.bytes front skips.cut)
          c.in_ok-push_str.ensures.bytes _ _ c.in_ok-push_str-2.ensures.bytes
          c.in-Some.ensures.chars ∙ c.loop-after.invariant.1,
    )
