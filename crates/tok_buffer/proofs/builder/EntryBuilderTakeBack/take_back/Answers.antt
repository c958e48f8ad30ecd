use Rattle.std.proofs.Common.{◌∙◌, rules, arith, sym}
use Rattle.tok_buffer.specs.Private.Layout.{levels_in}
use Rattle.tok_buffer.proofs.Levels.{back_built, back_shown, has_place, last_taken, left_filled}
use Rattle.tok_buffer.proofs.Levels.{left_open, open_before}
use Rattle.tok_buffer.proofs.builder.EntryBuilderTakeBack.take_back.Goals as goal

pub unreachable-requires : goal.unreachable-requires
unreachable-requires c =
    has_place _ _ _ c.self.invariant c.self.view_is c.requires
    (sym c.self.inside.«open».ok.0 ∙ c.in_default.ensures.cases.0)

pub overflow_sub-len : goal.overflow_sub-len
overflow_sub-len c =
    let before = open_before _ _ _ c.self.invariant c.self.view_is c.requires _ _
    c.in-Some.ensures.items in
    omega (arith, before)

pub returns-then-len-place-gt1-clause-left : goal.returns-then-len-place-gt1-clause-left
returns-then-len-place-gt1-clause-left c = λ _.
    let xs = c.self.inside.entries.items in
    let h = left_open _ _ _ c.self.invariant c.self.view_is c.requires _ _ c.in-Some.ensures.items
    in (
      c.self.view_is,
      left_filled xs c.pop.new.self.items c.in-Some.place (levels_in xs) c.args.self.now h
          c.self.view_is (search rules),
    )

pub invariant_of-self-2 : goal.invariant_of-self-2
invariant_of-self-2 c =
    let xs = c.self.inside.entries.items in
    let h = left_open _ _ _ c.self.invariant c.self.view_is c.requires _ _ c.in-Some.ensures.items
    in
    let (x, y) = last_taken xs c.pop-2.new.self.items c.pop-2.result (search rules) (search rules)
    in
    back_built xs c.pop-2.new.self.items c.pop.new.self.items c.in-Some.place (levels_in xs) x h y
    (search rules)

pub returns-clause-taken : goal.returns-clause-taken
returns-clause-taken c = λ _.
    let xs = c.self.inside.entries.items in
    let h = left_open _ _ _ c.self.invariant c.self.view_is c.requires _ _ c.in-Some.ensures.items
    in
    let (x, y) = last_taken xs c.pop-2.new.self.items c.pop-2.result (search rules) (search rules)
    in
    back_shown xs c.pop-2.new.self.items c.pop.new.self.items c.in-Some.place (levels_in xs) x h y
    (search rules) c.args.self.now c.self.view_is
