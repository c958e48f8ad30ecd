use Rattle.std.proofs.Common.{◌∙◌, sym, arith}
use Rattle.tok_lexical.specs.Characters.{is_whitespace}
use Rattle.tok_lexical.proofs.Longest.{skips_more}
use Rattle.tok_lexical.proofs.WhiteSpace.{skips_blanks}
use Rattle.tok_lexical.proofs.classes.past_other_whitespace.Goals as goal

pub loop-c-preserved : goal.loop-c-preserved
loop-c-preserved c =
    let i = c.loop-c.invariant.2 in
    let b = c.loop-c.invariant.1 in
    let s = c.in-Some.ensures.shorter in
    let t = c.past_ascii_whitespace-rest.ensures.shorter in
    let more = skips_more is_whitespace _ _ _ i.0 c.in-Some.c i.1 i.2 c.in-Some.ensures.chars
    (sym c.is_whitespace.ensures ∙ c.if-not-is_whitespace.false) in (
      c.past_ascii_whitespace-rest.utf8,
      omega arith,
      skips_blanks _ _ _ more.0 more.1 more.2
          c.past_ascii_whitespace-rest.ensures.skips,
    )
