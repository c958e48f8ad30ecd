use Rattle.std.proofs.Common.{◌∙◌, ◌+◌, ◌-◌, refl, sym, ap, arith}
use Rattle.std.specs.Prelude.{not}
use Rattle.tok_core.specs.Forest.{leaf}
use Rattle.tok_buffer.specs.Ahead.{first_of}
use Rattle.tok_buffer.specs.Private.Layout.{leaf_in}
use Rattle.tok_buffer.specs.Private.Steps.{ahead_place}
use Rattle.tok_buffer.proofs.Scans.{shown, shown_is, shown_front, shown_open, shown_close, shown_done}
use Rattle.tok_buffer.proofs.cursor.spans.scan.Goals as goal

pub returns-in-Leaf : goal.returns-in-Leaf
returns-in-Leaf c =
    let found = shown_front c.loop-ahead.depth (ahead_place c.loop-ahead.ahead)
    (leaf (leaf_in c.in-Leaf.leaf)) c.in-Leaf.ensures.0 refl in
    rw (c.span.ensures, shown_is, ← c.loop-ahead.invariant.same) (sym found)

pub returns-then-not-same : goal.returns-then-not-same
returns-then-not-same c =
    let visible = ap not (sym c.same.ensures ∙ c.if-not-same.true) in
    rw (shown_is, ← c.loop-ahead.invariant.same) (sym (shown_front c.loop-ahead.depth
    (ahead_place c.loop-ahead.ahead) _ c.in-Group.ensures.found visible))

pub loop-ahead-preserved-in-Group : goal.loop-ahead-preserved-in-Group
loop-ahead-preserved-in-Group c =
    let i = c.loop-ahead.invariant in
    let d = c.loop-ahead.depth in
    let f = c.in-Group.ensures in
    record {
      small = omega (arith, i.small, f.entered.position);
      same = ap (shown (d + 1)) f.entered.place
          ∙ shown_open d (ahead_place c.loop-ahead.ahead) _ f.contents _ f.found
          (sym c.same.ensures ∙ c.if-not-same.false) ∙ i.same;
    }

pub loop-ahead-preserved : goal.loop-ahead-preserved
loop-ahead-preserved c =
    let i = c.loop-ahead.invariant in
    let d = c.loop-ahead.depth in
    let e = c.in-End.ensures in
    record {
      small = omega (arith, i.small, e.1.position, c.saturating_sub-depth.ensures);
      same = ap (λ z. shown z (ahead_place c.in-End.after)) c.saturating_sub-depth.ensures
          ∙ ap (shown (d - 1)) e.1.place
          ∙ shown_close d (ahead_place c.loop-ahead.ahead) e.0 ∙ i.same;
    }

pub returns : goal.returns
returns c =
    rw (shown_is, ← c.loop-ahead.invariant.same)
    (ap first_of (sym (shown_done c.loop-ahead.depth c.loop-ahead.ahead c.loop-ahead-test.false)))
