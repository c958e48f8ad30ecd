use Rattle.std.proofs.Common.{rules, arith}
use Rattle.tok_core.proofs.Facts.{concat-none}
use Rattle.tok_types.proofs.Words.{suffix-identifier, word-empty, word-refused}
use Rattle.tok_types.proofs.look.append_word.Goals as goal

pub returns-then-is_empty-clause-ok : goal.returns-then-is_empty-clause-ok
returns-then-is_empty-clause-ok c = grind (arith, word-empty, concat-none)

pub identifier-requires : goal.identifier-requires
identifier-requires c = search (rules, suffix-identifier)

pub returns-in_err-ident-clause-err : goal.returns-in_err-ident-clause-err
returns-in_err-ident-clause-err c = search (rules, word-refused)

pub returns-clause-err : goal.returns-clause-err
returns-clause-err c = search (rules, word-refused)
