use Rattle.std.proofs.Common.{◌≡◌, ◌++◌, drop}
use Rattle.std.specs.Prelude.{map}
use Rattle.syn_derive.specs.Attributes.{attribute_form}
use Rattle.example_fields.specs.Tables.{attribute_rows}
use Rattle.example_fields.proofs.table.push_attributes.Given as goal

abbrev pub invariant-loop-attribute : goal.invariant-loop-attribute
invariant-loop-attribute l =
    l.rows.items
    ++ attribute_rows (map attribute_form (drop l.attribute-index l.attributes))
    ≡ l.initial.rows.items ++ attribute_rows (map attribute_form l.attributes)
