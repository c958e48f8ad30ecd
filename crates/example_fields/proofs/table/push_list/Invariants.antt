use Rattle.std.proofs.Common.{◌≡◌, ◌++◌}
use Rattle.std.specs.Prelude.{map}
use Rattle.syn_derive.specs.Fields.{field_form, list_of}
use Rattle.example_fields.specs.Tables.{list_rows}
use Rattle.example_fields.proofs.table.push_list.Given as goal

abbrev pub invariant-loop-field : goal.invariant-loop-field
invariant-loop-field l =
    (goal.iterator-loop-field).can_next l.field-iterator
    × (goal.iterator-loop-field).is_finite l.field-iterator
    × (l.rows.items ++ list_rows (map field_form l.field-iterator)
    ≡ l.initial.rows.items ++ list_rows (list_of l.fn.list).0)
