use Rattle.std.proofs.Common.{◌≡◌, ◌∙◌, ltb, rules}
use Rattle.std.proofs.lemmas.List.Sorted.{IsPartitionedBy-ltb, IsPartitionPoint-from_clause}
use Rattle.std.specs.List.Sorted.{IsNonDecreasing}
use Rattle.memchr.specs.Find.{is_byte, places}
use Rattle.tok_carets.proofs.Ranks.{ascending, point_is}
use Rattle.tok_carets.proofs.index.LineIndex.feeds_before.Goals as goal

pub returns-clause-count : goal.returns-clause-count
returns-clause-count c =
    let index = c.args.self.now in
    let same : c.deref.result.now ≡ places (is_byte 10) index.text.now = c.deref.ensures.value
    ∙ index.are in
    let rise : IsNonDecreasing c.deref.result.now =
    rw same (ascending (is_byte 10) index.text.now) in
    let point = IsPartitionPoint-from_clause (λ x. ltb x c.args.at) _ _
    c.partition_point.ensures.partitioned (IsPartitionedBy-ltb (λ x. x) _ c.args.at rise)
    (λ a r q k. search rules) in
    point_is (is_byte 10) index.text.now c.args.at c.partition_point.result
    (rw (← same) c.partition_point.ensures.bound) (rw (← same) point)
