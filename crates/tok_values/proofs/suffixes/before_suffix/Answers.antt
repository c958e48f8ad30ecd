use Rattle.std.specs.Str.{chars}
use Rattle.tok_values.proofs.Fronts.{suffix_ends}
use Rattle.tok_values.proofs.suffixes.before_suffix.Goals as goal

pub front_of-requires : goal.front_of-requires
front_of-requires c = rw c.literal_suffix.ensures (suffix_ends (chars c.args.text.now))
