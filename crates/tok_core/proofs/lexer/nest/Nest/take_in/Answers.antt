use Rattle.std.proofs.Common.{refl, sym, ◌∙◌}
use Rattle.tok_lexical.proofs.Docs.{block_end}
use Rattle.tok_core.specs.Private.Built.{state}
use Rattle.tok_core.proofs.Lexical.Steps.{halts_meaning, halts_deep, halts_unfit}
use Rattle.tok_core.proofs.lexer.nest.Nest.take_in.Goals as goal

pub returns-in-Some-clause-refused : goal.returns-in-Some-clause-refused
returns-in-Some-clause-refused g c = halts_meaning (state g.B.Build.levels c.args.self.now)
    c.args.rule c.args.mode c.args.piece.at _ _ c.in-Some.kind c.error_kind.result
    (c.error_kind.ensures c.requires.returns) c.in-Some.is

pub returns-in-Opening-clause-refused : goal.returns-in-Opening-clause-refused
returns-in-Opening-clause-refused g c = halts_deep (state g.B.Build.levels c.args.self.now)
    c.args.rule c.args.mode c.args.piece.at _ _ _ (rw c.in-Opening.is refl)
    (rw c.in-Opening.is refl) c.«open».ensures.refused

pub returns-in-Closing-clause-refused : goal.returns-in-Closing-clause-refused
returns-in-Closing-clause-refused g c = halts_unfit (state g.B.Build.levels c.args.self.now)
    c.args.rule c.args.mode c.args.piece.at _ _ c.in-Closing.delimiter _ c.in-Closing.is
    c.close.ensures.refused

pub returns-then-is_line_doc-clause-refused : goal.returns-then-is_line_doc-clause-refused
returns-then-is_line_doc-clause-refused g c = halts_deep (state g.B.Build.levels c.args.self.now)
    c.args.rule c.args.mode c.args.piece.at _ _ _
    (sym (c.error_kind.ensures c.requires.returns) ∙ c.in_default-error_kind.is)
    (rw c.in-LineComment.is (sym c.if-is_line_doc.ensures)) c.doc.ensures.refused

pub block_doc_text-requires : goal.block_doc_text-requires
block_doc_text-requires g c = block_end _ (rw c.in-BlockComment.is at c.requires.spelled)
    (sym c.if-is_block_doc.ensures)

pub returns-then-is_block_doc-clause-refused : goal.returns-then-is_block_doc-clause-refused
returns-then-is_block_doc-clause-refused g c =
    halts_deep (state g.B.Build.levels c.args.self.now) c.args.rule c.args.mode c.args.piece.at
    _ _ _ (sym (c.error_kind.ensures c.requires.returns) ∙ c.in_default-error_kind.is)
    (rw c.in-BlockComment.is (sym c.if-is_block_doc.ensures))
    c.doc-then-is_block_doc.ensures.refused
