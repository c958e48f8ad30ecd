use Rattle.std.proofs.Common.{◌∙◌, arith}
use Rattle.example_config.proofs.Meanings.{says, with_suffix, without_suffix}
use Rattle.example_config.specs.declared.value.Value.{the_lemmas}
use Rattle.example_config.proofs.read.unsuffixed.Goals as goal

pub returns-then-is_empty : goal.returns-then-is_empty
returns-then-is_empty c = λ a.
    without_suffix c.args.span c.args.number c.args.suffix.now a
    (omega (arith, c.ranges.number.fits)) c.if-is_empty.ensures
    ∙ simp the_lemmas

pub returns-else-is_empty : goal.returns-else-is_empty
returns-else-is_empty c = λ a.
    says _ a c.args.span _ c.at.result
    (with_suffix c.args.span c.args.number c.args.suffix.now a (omega (arith, c.ranges.number.fits))
    c.utf8.suffix c.if-is_empty.ensures) c.at.ensures.words
