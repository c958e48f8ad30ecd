use Rattle.std.proofs.Common.{arith}
use Rattle.std.proofs.lemmas.Grind.{common_steps}
use Rattle.tok_lexical.proofs.Codes.{counts_digit, too_many, too_large}
use Rattle.tok_lexical.proofs.Codes.{hex_from}
use Rattle.tok_lexical.proofs.escapes.names_char.Goals as goal

pub returns-then-count-eq6 : goal.returns-then-count-eq6
returns-then-count-eq6 c = too_many _ _ _ c.loop-c.value c.loop-c.count c.in-Some.c
    c.loop-c.invariant.1 c.in-Some.ensures.chars
    (hex_from c.in-Some.c _ c.in-Some-to_digit.ensures.value) c.if-count-eq6.true

pub returns-then-value-gt1114111 : goal.returns-then-value-gt1114111
returns-then-value-gt1114111 c = too_large _ _ c.loop-c.value c.loop-c.count c.loop-c.invariant.1
    c.if-value-gt1114111.true

pub loop-c-preserved-else-value-gt1114111 : goal.loop-c-preserved-else-value-gt1114111
loop-c-preserved-else-value-gt1114111 c = (
  c.in-Some.ensures.utf8,
  counts_digit _ _ _ c.loop-c.value c.loop-c.count c.in-Some.c
      c.in-Some-to_digit.digit c.loop-c.invariant.1 c.in-Some.ensures.chars
      (hex_from c.in-Some.c _ c.in-Some-to_digit.ensures.value) c.in-Some-to_digit.ensures.value.1
      c.if-count-eq6.false,
)

pub loop-c-preserved : goal.loop-c-preserved
loop-c-preserved c = grind (arith, common_steps)
