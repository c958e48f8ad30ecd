use Rattle.std.proofs.Common.{rules, string_bytes}
use Rattle.tok_leaves.specs.Leaves.{punct_of}
use Rattle.tok_entries.proofs.Laid.{leaf_kept, leaf_shown}
use Rattle.tok_entries.proofs.builder.EntryWriterBuild.punct.Goals as goal

pub invariant_of-self-2 : goal.invariant_of-self-2
invariant_of-self-2 c =
    leaf_kept c.self.inside.entries.items c.push_reserved.new.self.items
    (string_bytes c.self.inside.texts) (string_bytes c.push.new.self) c.self.inside.«open».items
    (punct_of c.args.punct) c.self.invariant (search rules) (search rules) (search rules)

pub returns-clause-ok : goal.returns-clause-ok
returns-clause-ok c =
    leaf_shown c.self.inside.entries.items c.push_reserved.new.self.items
    (string_bytes c.self.inside.texts) (string_bytes c.push.new.self) c.self.inside.«open».items
    (punct_of c.args.punct) c.self.invariant (search rules) (search rules) (search rules)
    c.args.self.now c.self.view_is
