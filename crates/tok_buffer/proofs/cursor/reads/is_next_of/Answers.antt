use Rattle.std.proofs.Common.{◌≡◌, ◌∙◌, sym}
use Rattle.tok_leaves.specs.declared.punct.Spacing.TheVariants.{Alone}
use Rattle.tok_core.specs.Forest.{leaf}
use Rattle.tok_leaves.specs.Leaves.{punct_of}
use Rattle.tok_buffer.proofs.Peeks.{last_next, alone_next, is_alone}
use Rattle.tok_buffer.proofs.cursor.reads.is_next_of.Goals as goal

pub returns-then-is_empty : goal.returns-then-is_empty
returns-then-is_empty c =
    c.if-is_empty.true
    ∙ sym (last_next c.args.wanted c.args.rest.now (leaf (punct_of c.args.punct))
    (sym c.is_empty.ensures ∙ c.if-is_empty.true)
    ∙ sym c.is_punct_of.ensures ∙ c.if-is_punct_of.true)

pub returns-in_default : goal.returns-in_default
returns-in_default c =
    let alone : c.args.punct.spacing ≡ Alone =
    is_alone _ (λ e. c.in_default.not-Joint (c.spacing.ensures ∙ e)) in
    sym (rw alone (alone_next c.args.wanted c.args.rest.now c.args.punct.ch c.args.punct.span
    c.utf8.rest (sym c.is_empty.ensures ∙ c.if-is_empty.false)))
