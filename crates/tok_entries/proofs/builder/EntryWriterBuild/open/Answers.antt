use Rattle.std.proofs.Common.{rules, string_bytes}
use Rattle.tok_entries.proofs.Laid.{open_kept, open_shown}
use Rattle.tok_entries.proofs.builder.EntryWriterBuild.open.Goals as goal

pub invariant_of-self-2 : goal.invariant_of-self-2
invariant_of-self-2 c =
    open_kept c.self.inside.entries.items c.push_reserved.new.self.items
    (string_bytes c.self.inside.texts) c.self.inside.«open».items c.push.new.self.items
    c.self.invariant (search rules) (search rules)

pub returns-clause-ok : goal.returns-clause-ok
returns-clause-ok c =
    open_shown c.self.inside.entries.items c.push_reserved.new.self.items
    (string_bytes c.self.inside.texts) c.self.inside.«open».items c.push.new.self.items
    c.self.invariant (search rules) (search rules) c.args.self.now c.self.view_is
