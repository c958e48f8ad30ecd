use Rattle.std.proofs.Common.{rules}
use Rattle.tok_buffer.specs.Cursors.{place_of}
use Rattle.tok_buffer.specs.Trees.{here}
use Rattle.tok_buffer.proofs.ScopeEnds.{ends_scope, pass-one}
use Rattle.tok_buffer.proofs.cursor.Cursor.scope_end.Goals as goal

pub loop-after-init : goal.loop-after-init
loop-after-init c = here

pub loop-after-preserved : goal.loop-after-preserved
loop-after-preserved c =
    (pass-one (place_of c.args.self) (place_of c.loop-after.rest) (place_of c.in-Some.after)
    c.loop-after.invariant (search rules)).0

pub loop-after-smaller : goal.loop-after-smaller
loop-after-smaller c =
    (pass-one (place_of c.args.self) (place_of c.loop-after.rest) (place_of c.in-Some.after)
    c.loop-after.invariant (search rules)).1

pub returns : goal.returns
returns c =
    ends_scope (place_of c.args.self) c.loop-after.rest c.loop-after.invariant (search rules)
