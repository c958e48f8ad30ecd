use Rattle.std.proofs.Common.{◌∙◌, sym}
use Rattle.tok_lexical.proofs.BareReturns.{bare_skipped, bare_found, bare_none}
use Rattle.tok_lexical.proofs.contents.finds_bare_return.Goals as goal

pub loop-after-preserved : goal.loop-after-preserved
loop-after-preserved c = (
  c.in-Some.ensures.utf8,
  c.loop-after.invariant.1
      ∙ bare_skipped _ _ _ c.past_others.ensures.skips.1 ∙ bare_found _ _ _ c.in-Some.ensures.chars
      (sym c.begins_with.ensures ∙ c.if-not-begins_with.false),
)

pub returns-then-not-begins_with : goal.returns-then-not-begins_with
returns-then-not-begins_with c =
    sym (c.loop-after.invariant.1 ∙ bare_skipped _ _ _ c.past_others.ensures.skips.1
    ∙ bare_found _ _ _ c.in-Some.ensures.chars (sym c.begins_with.ensures
    ∙ c.if-not-begins_with.true))

pub returns : goal.returns
returns c = sym (c.loop-after.invariant.1 ∙ bare_skipped _ _ _ c.past_others.ensures.skips.1
    ∙ bare_none _ c.past_others.ensures.skips.1.stops c.in_default.ensures.chars)
