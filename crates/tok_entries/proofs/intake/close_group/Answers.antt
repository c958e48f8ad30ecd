use Rattle.std.proofs.Common.{rules}
use Rattle.tok_entries.proofs.Closings.{taken_back, closed_visible, closed_filled}
use Rattle.tok_entries.proofs.intake.close_group.Goals as goal
use Rattle.tok_entries.proofs.intake.close_group.Goals.{else-eq-via-then-eq+else-take_back, else-eq-via-else-eq}

pub returns-then-take_back : goal.returns-then-take_back
returns-then-take_back g c = λ around f h.
    taken_back (g.B.Build.levels c.args.builder.now) (g.B.Build.levels c.take_back.new.self) around
    c.args.delimiter f c.args.span (search rules) (c.take_back.ensures.taken (search rules)) h

pub returns : goal.returns
returns g c = λ around f h.
    elim c.else-eq.branch [
      | else-eq-via-then-eq+else-take_back w ↦
          closed_filled (g.B.Build.levels c.else-eq.builder) (g.B.Build.levels c.close.new.self)
          around
          c.args.delimiter f c.args.span (search rules) (search rules) (search rules)
      | else-eq-via-else-eq w ↦
          closed_visible (g.B.Build.levels c.else-eq.builder) (g.B.Build.levels c.close.new.self)
          around
          c.args.delimiter f c.args.span (search rules) (search rules) (search rules)
    ]
