use Rattle.std.proofs.Common.{ap, arith}
use Rattle.tok_carets.specs.Lines.{line_feeds}
use Rattle.tok_carets.proofs.Feeds.{cut_there, feeds_in_bytes, in_front, last_from}
use Rattle.tok_carets.proofs.index.LineIndex.last_line.Goals as goal

pub split_at-requires : goal.split_at-requires
split_at-requires c =
    cut_there c.args.before.now c.utf8.before c.last_start-lines.result.1
    (in_front _ _ _ c.requires.front c.last_start-lines.ensures.start)

pub returns-clause-number : goal.returns-clause-number
returns-clause-number c =
    let same = feeds_in_bytes c.args.before.now c.utf8.before in
    omega (arith, c.last_start-lines.ensures.lines, ap line_feeds c.requires.front)

pub returns-clause-line : goal.returns-clause-line
returns-clause-line c =
    rw c.split_at.ensures.back (last_from c.args.before.now c.utf8.before _
    (in_front _ _ _ c.requires.front c.last_start-lines.ensures.start))
