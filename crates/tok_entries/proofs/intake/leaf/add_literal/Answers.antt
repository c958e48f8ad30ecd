use Rattle.std.proofs.Common.{ap, ◌∙◌}
use Rattle.std.proofs.lemmas.Str.{chars-append}
use Rattle.std.specs.Str.{chars}
use Rattle.tok_entries.proofs.intake.leaf.add_literal.Goals as goal

pub from_front-requires : goal.from_front-requires
from_front-requires g c =
    let (behind, e) = c.requires in
    (chars behind, ap chars e ∙ chars-append c.args.text.now behind c.utf8.text)
