use Rattle.std.proofs.Common.{rules}
use Rattle.tok_lexical.proofs.errors.error_kind.Goals.{then-is_block_doc, else-is_block_doc}
use Rattle.tok_lexical.proofs.errors.error_kind.Goals as goal

pub returns-after-is_block_doc : goal.returns-after-is_block_doc
returns-after-is_block_doc c = λ h. elim c.if-is_block_doc.branch [
  | then-is_block_doc w ↦ let e = w.has_bare_return.ensures h in search rules
  | else-is_block_doc w ↦ search rules
]
