use Rattle.std.proofs.Common.{◌∙◌, sym}
use Rattle.std.proofs.lemmas.Bool.{ne_eqb}
use Rattle.tok_values.proofs.TypedNumbers.{based_valueless, float_valued}
use Rattle.tok_values.proofs.numbers.has_float_value.Goals as goal

pub returns-then-base_of-eq10 : goal.returns-then-base_of-eq10
returns-then-base_of-eq10 c =
    float_valued c.args.text.now c.utf8.text c.requires
    (sym c.base_of.ensures.base ∙ c.if-base_of-eq10.true) c.is_float_suffix.result
    (rw c.literal_suffix.ensures at c.is_float_suffix.ensures)

pub returns-else-base_of-eq10 : goal.returns-else-base_of-eq10
returns-else-base_of-eq10 c =
    rw (ne_eqb c.base_of.result.0 10 c.if-base_of-eq10.false)
    (based_valueless c.args.text.now c.utf8.text c.requires
    (λ ten. c.if-base_of-eq10.false (c.base_of.ensures.base ∙ ten)))
