use Rattle.std.proofs.Common.{◌∙◌, ap, sym, subst, refl, Err, arith}
use Rattle.example_callers.specs.Fields.{FieldParses, read_field}
use Rattle.example_callers.proofs.Fields.{field_keeps_scope, not_next}
use Rattle.example_callers.proofs.streams.optional_field.Goals as goal
use Rattle.example_callers.proofs.streams.optional_field.Goals.{in-Refused, in-Memory}

pub advance_to-requires : goal.advance_to-requires
advance_to-requires c = grind (arith, field_keeps_scope)

pub returns-after-fault : goal.returns-after-fault
returns-after-fault c =
    let here = c.args.input.now in
    let fork = c.fork-fork.result in
    elim c.match-fault.branch [
      | in-Refused w ↦
          let parsed = c.in-Err.ensures in
          let refused = subst (λ f. FieldParses fork (Err f) fork) w.in-Refused.is parsed in
          let missing = not_next fork w.in-Refused.field-0 fork refused in
          rw w.result-is (ap (λ s. read_field s.place) (sym c.fork-fork.ensures) ∙ missing, refl)
      | in-Memory w ↦ rw w.result-is (tt, refl)
    ]
