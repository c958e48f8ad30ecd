use Rattle.std.proofs.Common.{arith}
use Rattle.tok_lexical.specs.QuotedFaults.{too_many, unclosed, whole}
use Rattle.tok_lexical.proofs.RawStrings.{signs_length}
use Rattle.tok_lexical.proofs.quoted.raw_fault.Goals as goal

pub returns-then-hashes-gt-MOST_SIGNS-clause-is : goal.returns-then-hashes-gt-MOST_SIGNS-clause-is
returns-then-hashes-gt-MOST_SIGNS-clause-is c =
    let l = signs_length _ c.utf8.hashes c.requires in
    too_many (omega (arith, c.if-hashes-gt-MOST_SIGNS.true))

pub returns-in-Some-clause-is : goal.returns-in-Some-clause-is
returns-in-Some-clause-is c =
    let l = signs_length _ c.utf8.hashes c.requires in
    let (piece, cut, ends) = c.in-Some.ensures.finds in
    whole (omega (arith, c.if-hashes-gt-MOST_SIGNS.false)) (piece, _, cut, ends)

pub returns-in-None-clause-is : goal.returns-in-None-clause-is
returns-in-None-clause-is c =
    let l = signs_length _ c.utf8.hashes c.requires in
    unclosed (omega (arith, c.if-hashes-gt-MOST_SIGNS.false)) c.in-None.ensures.finds
