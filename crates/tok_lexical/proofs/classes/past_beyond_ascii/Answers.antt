use Rattle.std.proofs.lemmas.Grind.{common_steps}
use Rattle.std.proofs.Common.{◌∙◌, [], refl, sym, arith}
use Rattle.tok_lexical.specs.Characters.{is_whitespace}
use Rattle.tok_lexical.proofs.Longest.{skips_after}
use Rattle.tok_lexical.proofs.WhiteSpace.{none_may_begin}
use Rattle.tok_lexical.proofs.classes.past_beyond_ascii.Goals as goal

pub returns-then-not-may_begin_whitespace-clause-skips :
    goal.returns-then-not-may_begin_whitespace-clause-skips
returns-then-not-may_begin_whitespace-clause-skips c = none_may_begin _ _
    c.if-not-may_begin_whitespace.true c.may_begin_whitespace.ensures

pub returns-in-Some-clause-skips : goal.returns-in-Some-clause-skips
returns-in-Some-clause-skips c =
    skips_after is_whitespace c.in-Some.c _ _ _ c.in-Some.ensures.chars
    (sym c.is_whitespace.ensures ∙ c.if-is_whitespace.true)
    c.past_other_whitespace.ensures.skips

pub returns-in_default-clause-skips : goal.returns-in_default-clause-skips
returns-in_default-clause-skips c = (
  [],
  record {
    cut = refl;
    pass = refl;
    stops = rw c.in-Some.ensures.chars (sym c.is_whitespace.ensures ∙ c.if-is_whitespace.false);
  },
)

pub returns-in_default-2-clause-skips : goal.returns-in_default-2-clause-skips
returns-in_default-2-clause-skips c = grind (arith, common_steps)
