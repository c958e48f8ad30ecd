use Rattle.std.proofs.Common.{◌∙◌, sym, ap}
use Rattle.tok_leaves.specs.Lifetimes.{error_in}
use Rattle.tok_leaves.proofs.Names.{empty_plain, plain_fault}
use Rattle.tok_leaves.proofs.lifetime.plain_identifier.Goals as goal

pub returns-then-is_empty-clause-refused : goal.returns-then-is_empty-clause-refused
returns-then-is_empty-clause-refused c = empty_plain c.args.name.now (sym c.is_empty.ensures
    ∙ c.if-is_empty.true)

pub returns-in-Err-clause-refused : goal.returns-in-Err-clause-refused
returns-in-Err-clause-refused c =
    plain_fault c.args.name.now c.in-Err.fault c.utf8.name (sym c.is_empty.ensures
    ∙ c.if-is_empty.false) c.in-Err.ensures.takes
    (λ never. let e = c.in-Err.ensures.refuses never in cc)
    ∙ ap error_in (sym c.name_fault.ensures)
