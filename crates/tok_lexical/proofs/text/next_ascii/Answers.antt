use Rattle.std.proofs.Common.{◌≡◌, ◌<◌, ◌≤◌, length, get_or, rules, tests, arith}
use Rattle.std.proofs.lemmas.Str.{IsCharBoundary-after_ascii}
use Rattle.tok_lexical.proofs.Texts.{ascii_first, ascii_misses, nothing_first}
use Rattle.tok_lexical.proofs.text.next_ascii.Goals as goal

pub returns-in_err-first-clause-chars : goal.returns-in_err-first-clause-chars
returns-in_err-first-clause-chars c =
    let none : length c.args.text.now ≡ 0 = search rules in
    rw c.from_residual.ensures (λ first more low. nothing_first c.args.text.now first none more)

pub split_at-requires : goal.split_at-requires
split_at-requires c =
    let some : 0 < length c.args.text.now = search rules in
    let is : c.in_ok-first.first.now ≡ get_or c.args.text.now 0 0 = search rules in
    let low : c.in_ok-first.first.now < 128 = search (rules, tests) in
    IsCharBoundary-after_ascii c.args.text.now 0 c.utf8.text some (rw is at low)

pub returns-then-is_ascii-clause-chars : goal.returns-then-is_ascii-clause-chars
returns-then-is_ascii-clause-chars c =
    let some : 0 < length c.args.text.now = search rules in
    let is : c.in_ok-first.first.now ≡ get_or c.args.text.now 0 0 = search rules in
    let low : c.in_ok-first.first.now < 128 = search (rules, tests) in
    ascii_first c.args.text.now c.split_at.result.1.now c.in_ok-first.first.now c.utf8.text some is
    low c.split_at.ensures.back

pub returns-else-is_ascii-clause-chars : goal.returns-else-is_ascii-clause-chars
returns-else-is_ascii-clause-chars c first more low =
    let is : c.in_ok-first.first.now ≡ get_or c.args.text.now 0 0 = search rules in
    let high : 128 ≤ c.in_ok-first.first.now = search (rules, tests) in
    ascii_misses c.args.text.now first c.utf8.text low (λ e. omega (arith, is, e)) more
