use Rattle.std.proofs.Common.{◌<◌, ap, arith, length, rules, string_bytes}
use Rattle.tok_leaves.specs.Spans.{opening_span, closing_span}
use Rattle.tok_entries.specs.Private.Laid.{levels_in}
use Rattle.tok_entries.proofs.Laid.{Left, close_kept, close_shown, left_before, leaves_level}
use Rattle.tok_core.proofs.Levels.{places_length}
use Rattle.tok_entries.proofs.builder.EntryWriterBuild.close.Goals as goal
use Rattle.tok_entries.proofs.builder.EntryWriterBuild.close.Goals.{In-Some}

pub unreachable-requires : goal.unreachable-requires
unreachable-requires c =
    let s = levels_in c.self.inside.entries.items (string_bytes c.self.inside.texts) in
    omega (
      arith,
      c.in_default.ensures.cases.0,
      c.self.inside.«open».ok.0,
      ap length c.self.invariant.2,
      places_length 0 s.outer,
      ap (λ w. length w.outer)
          c.self.view_is,
      c.requires,
    )

-- what the closed level leaves of the entries and texts
left : (c : In-Some) → Left c.self.inside.entries.items (string_bytes c.self.inside.texts)
    c.pop.new.self.items c.in-Some.start
    (levels_in c.self.inside.entries.items (string_bytes c.self.inside.texts))
left c =
    let es = c.self.inside.entries.items in
    let bs = string_bytes c.self.inside.texts in
    leaves_level es bs c.self.inside.«open».items c.pop.new.self.items c.in-Some.start
    (levels_in es bs) c.self.invariant (rw c.self.view_is c.requires) c.in-Some.ensures.items

-- the opening entry of the closed level is among the entries
opened : (c : In-Some) → c.in-Some.start < length c.self.inside.entries.items
opened c = left_before _ _ _ _ _ (left c)

pub overflow_sub-distance : goal.overflow_sub-distance
overflow_sub-distance c =
    omega (
      arith,
      opened (goal.at.overflow_sub-distance c).In-Some,
      c.len.ensures,
      c.in_ok-reserve.ensures.len,
      c.self.inside.entries.ok.0,
    )

pub index-requires : goal.index-requires
index-requires c =
    omega (
      arith,
      opened (goal.at.index-requires c).In-Some,
      c.in_ok-reserve.ensures.len,
      c.self.inside.entries.ok.0,
    )

pub index_mut-requires : goal.index_mut-requires
index_mut-requires c =
    omega (
      arith,
      opened (goal.at.index_mut-requires c).In-Some,
      c.push_reserved.ensures.len,
      c.in_ok-reserve.ensures.len,
      c.self.inside.entries.ok.0,
    )

pub invariant_of-self-2 : goal.invariant_of-self-2
invariant_of-self-2 c =
    close_kept _ c.push_reserved.new.self.items _ _ _ c.len.result c.index.result.now.text_start
    c.len-2.result _ c.args.delimiter c.args.span (opening_span c.args.span)
    (closing_span c.args.span) c.edge-2.result c.edge.result c.index.result.now
    (left (goal.at.invariant_of-self-2 c).In-Some) (search rules) (search rules) (search rules)
    (search rules) (search rules) (search rules) (search rules) (search rules) (search rules)

pub returns-clause-ok : goal.returns-clause-ok
returns-clause-ok c =
    close_shown _ c.push_reserved.new.self.items _ _ _ c.len.result c.index.result.now.text_start
    c.len-2.result _ c.args.delimiter c.args.span (opening_span c.args.span)
    (closing_span c.args.span) c.edge-2.result c.edge.result c.index.result.now
    (left (goal.at.returns-clause-ok c).In-Some) (search rules) (search rules) (search rules)
    (search rules) (search rules) (search rules) (search rules) (search rules) (search rules)
    c.args.self.now c.self.view_is
