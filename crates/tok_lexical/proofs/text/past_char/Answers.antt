use Rattle.std.proofs.Common.{◌≡◌, ◌<◌, ◌∙◌, sym, length, get_or, rules}
use Rattle.std.proofs.lemmas.Str.{IsCharBoundary-after_ascii}
use Rattle.tok_lexical.proofs.Texts.{ascii_first, ascii_misses, nothing_first}
use Rattle.tok_lexical.proofs.text.past_char.Goals as goal

pub returns-in_err-first-clause-chars : goal.returns-in_err-first-clause-chars
returns-in_err-first-clause-chars c =
    let none : length c.args.text.now ≡ 0 = search rules in
    rw c.from_residual.ensures (nothing_first c.args.text.now c.args.ch none)

pub split_at-requires : goal.split_at-requires
split_at-requires c =
    let some : 0 < length c.args.text.now = search rules in
    let is : c.in_ok-first.first.now ≡ get_or c.args.text.now 0 0 = search rules in
    IsCharBoundary-after_ascii c.args.text.now 0 c.utf8.text some
    (rw (sym c.if-first-ch.true ∙ is) at c.requires.ascii)

pub returns-then-first-ch-clause-chars : goal.returns-then-first-ch-clause-chars
returns-then-first-ch-clause-chars c =
    let some : 0 < length c.args.text.now = search rules in
    let is : c.in_ok-first.first.now ≡ get_or c.args.text.now 0 0 = search rules in
    ascii_first c.args.text.now c.split_at.result.1.now c.args.ch c.utf8.text some
    (sym c.if-first-ch.true ∙ is) c.requires.ascii c.split_at.ensures.back

pub returns-else-first-ch-clause-chars : goal.returns-else-first-ch-clause-chars
returns-else-first-ch-clause-chars c =
    let is : c.in_ok-first.first.now ≡ get_or c.args.text.now 0 0 = search rules in
    ascii_misses c.args.text.now c.args.ch c.utf8.text c.requires.ascii
    (λ e. c.if-first-ch.false (is ∙ e))
