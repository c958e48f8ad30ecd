use Rattle.std.proofs.Common.{◌≡◌, true}
use Rattle.unicode_ident.specs.Ident.{is_xid_continue}
use Rattle.tok_lexical.proofs.Longest.{skips_more}
use Rattle.tok_lexical.proofs.words.past_any_continues.Goals as goal
use Rattle.tok_lexical.proofs.words.past_any_continues.Goals.{then-begins_beyond_ascii, else-begins_beyond_ascii}

pub loop-c-preserved : goal.loop-c-preserved
loop-c-preserved c =
    let i = c.loop-c.invariant.1 in
    let passes : is_xid_continue c.in-Some.c ≡ true = elim c.if-begins_beyond_ascii.branch [
      | then-begins_beyond_ascii w ↦ cc (
        w.is_xid_continue-passes.ensures.value,
        w.passes-is,
        c.if-not-passes.false,
      )
      | else-begins_beyond_ascii w ↦ cc (
        w.goes_on-passes.ensures,
        w.passes-is,
        c.if-not-passes.false,
      )
    ] in (
      c.in-Some.ensures.utf8,
      skips_more is_xid_continue _ _ _ i.0 c.in-Some.c i.1 i.2 c.in-Some.ensures.chars passes,
    )
