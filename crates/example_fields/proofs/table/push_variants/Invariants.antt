use Rattle.std.proofs.Common.{◌≡◌, ◌++◌}
use Rattle.std.specs.Prelude.{map}
use Rattle.syn_derive.specs.Fields.{variant_form}
use Rattle.syn_punctuated.specs.Lists.{values_of}
use Rattle.example_fields.specs.Tables.{variants_rows}
use Rattle.example_fields.proofs.table.push_variants.Given as goal

abbrev pub invariant-loop-variant : goal.invariant-loop-variant
invariant-loop-variant l =
    (goal.iterator-loop-variant).can_next l.variant-iterator
    × (goal.iterator-loop-variant).is_finite l.variant-iterator
    × (l.rows.items ++ variants_rows (map variant_form l.variant-iterator)
    ≡ l.initial.rows.items ++ variants_rows (map variant_form (values_of l.fn.list)))
