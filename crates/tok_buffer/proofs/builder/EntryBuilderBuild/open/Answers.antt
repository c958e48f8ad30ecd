use Rattle.tok_buffer.proofs.Levels.{open_built, open_shown}
use Rattle.tok_buffer.proofs.builder.EntryBuilderBuild.open.Goals as goal

pub invariant_of-self-in-Ok : goal.invariant_of-self-in-Ok
invariant_of-self-in-Ok c =
    open_built _ _ _ _ c.self.invariant c.in_ok-push.ensures.items
    (rw (c.len-start.ensures, c.self.inside.entries.ok.0) at c.in-Ok.ensures.items)

pub returns-in-Ok-clause-ok : goal.returns-in-Ok-clause-ok
returns-in-Ok-clause-ok c =
    open_shown _ _ _ _ c.self.invariant c.in_ok-push.ensures.items
    (rw (c.len-start.ensures, c.self.inside.entries.ok.0) at c.in-Ok.ensures.items) _
    c.self.view_is
