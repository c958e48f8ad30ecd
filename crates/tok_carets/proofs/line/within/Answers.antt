use Rattle.std.proofs.Common.{◌∙◌, ◌-◌, ap}
use Rattle.std.specs.Str.{chars}
use Rattle.tok_carets.proofs.Lines.{within_more}
use Rattle.tok_carets.proofs.line.within.Goals as goal

pub loop-c-preserved : goal.loop-c-preserved
loop-c-preserved c =
    let i = c.loop-c.invariant.1 in (
      c.in-Some.ensures.utf8,
      within_more (chars c.args.text.now) (chars c.loop-c.rest.now) (chars c.in-Some.after.now) i.0
          _ c.loop-c.left _ c.in-Some.c
          i.1 i.2 c.in-Some.ensures.chars c.if-left-eq0.false (c.saturating_sub-left.ensures
          ∙ ap (λ n. c.loop-c.left - n) c.len_utf8.ensures.value),
    )
