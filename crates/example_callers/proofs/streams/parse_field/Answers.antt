use Rattle.example_callers.specs.Fields.{FieldParses}
use Rattle.example_callers.proofs.Fields.{field_read, without_colon, without_kind, without_name}
use Rattle.example_callers.proofs.Parts.{at_exit}
use Rattle.syn_parse.specs.Reads.{does}
use Rattle.example_callers.proofs.streams.parse_field.Goals as goal

pub returns-in_err-name : goal.returns-in_err-name
returns-in_err-name c =
    let f = c.in_err-name.field-0.0 in
    let left = c.parse.new.self in
    at_exit (λ r. FieldParses c.args.input.now r left) c.from_residual.result f
    c.from_residual.ensures.1
    (without_name c.args.input.now f left (does _ _ _ _ c.in_err-name.ensures.reads))

pub returns-in_err-parse : goal.returns-in_err-parse
returns-in_err-parse c =
    let f = c.in_err-parse.field-0.0 in
    let exit = c.from_residual-in_err-parse in
    at_exit (λ r. FieldParses c.args.input.now r c.parse-2.new.self) exit.result f exit.ensures.1
    (without_colon c.args.input.now c.parse.new.self c.parse-2.new.self c.in_ok-name.name f
    (does _ _ _ _ c.in_ok-name.ensures.reads) (does _ _ _ _ c.in_err-parse.ensures.reads))

pub returns-in_err-parse-2 : goal.returns-in_err-parse-2
returns-in_err-parse-2 c =
    let f = c.in_err-parse-2.field-0.0 in
    let left = c.parse-3.new.self in
    let exit = c.from_residual-in_err-parse-2 in
    at_exit (λ r. FieldParses c.args.input.now r left) exit.result f exit.ensures.1
    (without_kind c.args.input.now c.parse.new.self c.parse-2.new.self c.in_ok-name.name
    c.in_ok-parse.field-0 (does _ _ _ _ c.in_ok-name.ensures.reads)
    (does _ _ _ _ c.in_ok-parse.ensures.reads) f left
    (does _ _ _ _ c.in_err-parse-2.ensures.reads))

pub returns : goal.returns
returns c =
    field_read c.args.input.now c.parse.new.self c.parse-2.new.self c.in_ok-name.name
    c.in_ok-parse.field-0 (does _ _ _ _ c.in_ok-name.ensures.reads)
    (does _ _ _ _ c.in_ok-parse.ensures.reads) c.parse-3.new.self
    c.in_ok-parse-2.field-0 (does _ _ _ _ c.in_ok-parse-2.ensures.reads)
