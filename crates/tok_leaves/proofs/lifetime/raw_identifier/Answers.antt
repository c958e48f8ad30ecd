use Rattle.std.proofs.Common.{◌∙◌, sym, ap}
use Rattle.tok_leaves.specs.Lifetimes.{error_in}
use Rattle.tok_leaves.proofs.Names.{empty_raw, raw_fault}
use Rattle.tok_leaves.proofs.lifetime.raw_identifier.Goals as goal

pub returns-then-is_empty-clause-refused : goal.returns-then-is_empty-clause-refused
returns-then-is_empty-clause-refused c =
    empty_raw c.args.word.now (sym c.has_no_raw.ensures ∙ c.if-has_no_raw.false)
    (sym c.is_empty.ensures ∙ c.if-is_empty.true)

pub returns-in-Err-clause-refused : goal.returns-in-Err-clause-refused
returns-in-Err-clause-refused c =
    raw_fault c.args.word.now c.in-Err.fault c.utf8.word (sym c.is_empty.ensures
    ∙ c.if-is_empty.false) (sym c.has_no_raw.ensures ∙ c.if-has_no_raw.false)
    c.in-Err.ensures.takes (λ never. let e = c.in-Err.ensures.refuses never in cc)
    ∙ ap error_in (sym c.name_fault.ensures)
