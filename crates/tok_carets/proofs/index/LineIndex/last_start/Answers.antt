use Rattle.std.proofs.Common.{arith}
use Rattle.tok_carets.proofs.Ranks.{start_is}
use Rattle.tok_carets.proofs.index.LineIndex.last_start.Goals as goal

pub overflow_add-result : goal.overflow_add-result
overflow_add-result c =
    let start = start_is c.args.self.now.text.now c.args.self.now.feeds.items c.args.at
    c.feeds_before-lines.result _ c.args.self.now.are c.feeds_before-lines.ensures.few
    c.feeds_before-lines.ensures.count c.if-lines-eq0.false c.index.ensures in
    omega (arith, start.low)

pub returns-else-lines-eq0-clause-start : goal.returns-else-lines-eq0-clause-start
returns-else-lines-eq0-clause-start c =
    start_is c.args.self.now.text.now c.args.self.now.feeds.items c.args.at
    c.feeds_before-lines.result _ c.args.self.now.are c.feeds_before-lines.ensures.few
    c.feeds_before-lines.ensures.count c.if-lines-eq0.false c.index.ensures
