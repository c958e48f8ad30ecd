use Rattle.std.proofs.Common.{◌≡◌, ◌∙◌, length, arith, sym}
use Rattle.tok_buffer.specs.Private.Layout.{levels_in}
use Rattle.tok_buffer.proofs.Levels.{built_close, closes, entries_built, has_place, left_open, open_before}
use Rattle.tok_buffer.proofs.builder.EntryBuilderBuild.close.Goals as goal

pub unreachable-requires : goal.unreachable-requires
unreachable-requires c =
    has_place _ _ _ c.self.invariant c.self.view_is c.requires
    (sym c.self.inside.«open».ok.0 ∙ c.in_default.ensures.cases.0)

pub overflow_sub-offset : goal.overflow_sub-offset
overflow_sub-offset c =
    let before = open_before _ _ _ c.self.invariant c.self.view_is c.requires _ _
    c.in-Some.ensures.items in
    omega (arith, before)

pub index_mut-requires : goal.index_mut-requires
index_mut-requires c =
    let before = open_before _ _ _ c.self.invariant c.self.view_is c.requires _ _
    c.in-Some.ensures.items in
    omega (arith, before)

pub invariant_of-self : goal.invariant_of-self
invariant_of-self c =
    let xs = c.self.inside.entries.items in
    let h = left_open _ _ _ c.self.invariant c.self.view_is c.requires _ _ c.in-Some.ensures.items
    in
    let k : c.len.result ≡ length xs = c.len.ensures ∙ c.self.inside.entries.ok.0 in
    entries_built _ _ _ (built_close xs c.push.new.self.items c.pop.new.self.items c.in-Some.start
    c.len.result (levels_in xs) c.args.delimiter c.args.span h k c.in-Ok.ensures.items)

pub returns-in-Ok-clause-ok : goal.returns-in-Ok-clause-ok
returns-in-Ok-clause-ok c =
    let xs = c.self.inside.entries.items in
    let h = left_open _ _ _ c.self.invariant c.self.view_is c.requires _ _ c.in-Some.ensures.items
    in
    let k : c.len.result ≡ length xs = c.len.ensures ∙ c.self.inside.entries.ok.0 in
    closes xs c.push.new.self.items c.pop.new.self.items c.in-Some.start c.len.result
    (levels_in xs) c.args.delimiter c.args.span h k c.in-Ok.ensures.items c.args.self.now
    c.self.view_is
