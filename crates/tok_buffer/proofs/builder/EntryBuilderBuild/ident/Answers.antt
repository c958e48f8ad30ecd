use Rattle.tok_leaves.specs.Leaves.{ident_of}
use Rattle.tok_buffer.proofs.Levels.{leaf_built, leaf_shown}
use Rattle.tok_buffer.proofs.builder.EntryBuilderBuild.ident.Goals as goal

pub invariant_of-self-2 : goal.invariant_of-self-2
invariant_of-self-2 c =
    leaf_built _ _ _ (ident_of c.args.ident) c.self.invariant c.in_ok-push.ensures.items

pub returns-clause-ok : goal.returns-clause-ok
returns-clause-ok c =
    leaf_shown _ _ _ (ident_of c.args.ident) c.self.invariant c.in_ok-push.ensures.items _
    c.self.view_is
