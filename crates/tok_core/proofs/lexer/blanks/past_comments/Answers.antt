use Rattle.std.proofs.Common.{arith, refl}
use Rattle.tok_core.proofs.Lexical.Blanks.{blank_none, blank_more, blank_spaces}
use Rattle.tok_core.proofs.lexer.blanks.past_comments.Goals as goal

pub loop-next-init : goal.loop-next-init
loop-next-init c = (c.utf8.text, omega arith, blank_none c.args.text.now c.args.text.now refl)

pub loop-next-preserved : goal.loop-next-preserved
loop-next-preserved c =
    let i = c.loop-next.invariant in
    let l = c.in-Some.ensures.shorter in
    let m = c.past_whitespace-rest.ensures.shorter in
    let space = blank_spaces c.in-Some.next.now c.past_whitespace-rest.result.now
    c.in-Some.ensures.utf8 c.past_whitespace-rest.utf8
    c.past_whitespace-rest.ensures.skips in
    let comment = blank_more c.args.text.now c.loop-next.rest.now c.in-Some.next.now
    (omega arith) i.1 i.2 c.in-Some.ensures.blank in (
      c.past_whitespace-rest.utf8,
      omega arith,
      blank_more c.args.text.now c.in-Some.next.now
          c.past_whitespace-rest.result.now m (omega arith) comment space,
    )
