use Rattle.std.proofs.Common.{arith, inl, refl}
use Rattle.tok_carets.proofs.Feeds.{after_last, clear_of, cut_there, feeds_in_bytes, last_from}
use Rattle.tok_carets.proofs.line.last_line.Goals as goal

pub returns-in_default-clause-number : goal.returns-in_default-clause-number
returns-in_default-clause-number c = grind (arith, feeds_in_bytes)

pub returns-clause-number : goal.returns-clause-number
returns-clause-number c = grind (arith, feeds_in_bytes)

pub returns-in_default-clause-line : goal.returns-in_default-clause-line
returns-in_default-clause-line c =
    let none = rw c.as_bytes-bytes.ensures.value at c.in_default.ensures in
    (clear_of c.args.text.now c.utf8.text none, inl refl)

pub split_at-requires : goal.split_at-requires
split_at-requires c =
    let last = rw c.as_bytes-bytes.ensures.value at c.in-Some.ensures in
    cut_there c.args.text.now c.utf8.text _ (after_last _ _ last)

pub returns-clause-line : goal.returns-clause-line
returns-clause-line c =
    let last = rw c.as_bytes-bytes.ensures.value at c.in-Some.ensures in
    rw c.split_at.ensures.back (last_from c.args.text.now c.utf8.text _ (after_last _ _ last))
