use Rattle.std.proofs.Common.{◌≡◌, ◌≤◌, ◌∙◌, ◌+◌, sym, ap, arith}
use Rattle.tok_core.specs.Weight.{weight}
use Rattle.tok_buffer.specs.Moves.{frames_at}
use Rattle.tok_buffer.specs.Private.Layout.{entry_here, entry_of, leaf_in}
use Rattle.tok_buffer.specs.declared.entry.Entry.TheVariants.{Group}
use Rattle.tok_buffer.proofs.Groups.{held_after, held_fits, held_within}
use Rattle.tok_buffer.proofs.InScope.{place_step}
use Rattle.tok_buffer.proofs.Steps.{leaf_found, leaf_next, end_found, group_found}
use Rattle.tok_buffer.proofs.Steps.{onward_fits, onward_within, ahead_at, on_at}
use Rattle.tok_buffer.proofs.ahead.Ahead.next.Goals as goal
use Rattle.tok_buffer.proofs.ahead.Ahead.next.Goals.{In-Group}

pub overflow_add-position : goal.overflow_add-position
overflow_add-position c = omega (arith, onward_fits c.args.self c.requires, c.args.self.in_range)

pub new-onward-requires : goal.new-onward-requires
new-onward-requires c =
    let a = c.args.self in
    record { in_buffer = a.in_buffer; within = onward_within a c.requires }

pub entry-requires : goal.entry-requires
entry-requires c = let a = c.args.self in omega (arith, onward_fits a c.requires, a.in_buffer)

pub returns-in-Leaf : goal.returns-in-Leaf
returns-in-Leaf c =
    let a = c.args.self in
    let F = a.buffer.now.forest in
    let k = a.buffer.now.number in
    let l = leaf_in c.in-Leaf.leaf in
    let n = c.new-onward.ensures in
    let e = sym c.entry.ensures ∙ c.held.ensures ∙ ap entry_of c.in-Leaf.is in (
      leaf_found k F a.position a.scope a.within l e,
      on_at a c.new-onward.result 1 _ n.buffer n.position n.scope (onward_fits a c.requires)
          (leaf_next k F a.position a.scope a.within l c.requires e),
    )

-- the entry at a group, and where the group ends
here : (c : In-Group) →
    entry_here (frames_at c.args.self.buffer.now.forest c.args.self.position).0
    ≡ Group c.in-Group.opening.now c.in-Group.offset
here c = sym c.entry.ensures ∙ c.held.ensures ∙ ap entry_of c.in-Group.is

fits : (c : In-Group) → c.args.self.position + c.in-Group.offset + 1 ≤ c.args.self.scope
fits c =
    let a = c.args.self in held_fits a.buffer.now.forest a.position a.scope _ _ a.within (here c)

pub overflow_add-position-in-Group-2 : goal.overflow_add-position-in-Group-2
overflow_add-position-in-Group-2 c =
    omega (arith, fits (goal.at.overflow_add-position-in-Group-2 c).In-Group, c.args.self.in_range)

pub new-requires : goal.new-requires
new-requires c =
    let a = c.args.self in
    let w = (goal.at.new-requires c).In-Group in
    record {
      in_buffer = omega (arith, fits w, a.in_buffer);
      within = held_within a.buffer.now.forest a.position a.scope _ _ a.within (here w);
    }

pub overflow_add-position-in-Group-4 : goal.overflow_add-position-in-Group-4
overflow_add-position-in-Group-4 c =
    omega (arith, fits (goal.at.overflow_add-position-in-Group-4 c).In-Group, c.args.self.in_range)

pub new-requires-in-Group-clause-within : goal.new-requires-in-Group-clause-within
new-requires-in-Group-clause-within c =
    let a = c.args.self in
    held_after a.buffer.now.forest a.position a.scope _ _ a.within
    (here (goal.at.new-requires-in-Group-clause-within c).In-Group)

pub returns-in-Group : goal.returns-in-Group
returns-in-Group c =
    let a = c.args.self in
    let F = a.buffer.now.forest in
    let k = a.buffer.now.number in
    let m = c.in-Group.offset in
    let at_group = (goal.at.returns-in-Group c).In-Group in
    let w = group_found k F a.position a.scope a.within c.in-Group.opening.now m (here at_group) in
    let q : a.position + m + 1 ≡ a.position + (2 + weight w.0) = omega (arith, w.1) in
    let n = c.new-onward.ensures in
    let i = c.new.ensures in
    let r = c.new-in-Group.ensures in
    record {
      contents = w.0;
      found = w.2;
      inside = ahead_at c.new.result a.buffer.now _ _ i.buffer i.position i.scope ∙ w.3;
      begins = i.position;
      ends = omega (arith, i.scope, w.1);
      entered = on_at a c.new-onward.result 1 _ n.buffer n.position n.scope
          (onward_fits a c.requires) (place_step k a.position a.scope F a.within c.requires).1;
      after = on_at a c.new-in-Group.result (2 + weight w.0) _ r.buffer (r.position ∙ q) r.scope
          (omega (arith, fits at_group, w.1)) (rw (← q) w.4);
    }

pub returns-in-End : goal.returns-in-End
returns-in-End c =
    let a = c.args.self in
    let F = a.buffer.now.forest in
    let k = a.buffer.now.number in
    let n = c.new-onward.ensures in
    let e = sym c.entry.ensures ∙ c.held.ensures ∙ ap entry_of c.in-End.is in (
      end_found k F a.position a.scope a.within c.in-End.field-0 c.requires e,
      on_at a c.new-onward.result 1 _ n.buffer n.position n.scope (onward_fits a c.requires)
          (place_step k a.position a.scope F a.within c.requires).1,
    )
