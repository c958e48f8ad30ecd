use Rattle.std.proofs.Common.{ap}
use Rattle.std.proofs.lemmas.Str.{chars-nil, IsUtf8-nil}
use Rattle.std.specs.Str.{chars}
use Rattle.tok_values.specs.Suffixes.{after_marks}
use Rattle.tok_values.proofs.suffixes.after_marks.Goals as goal

pub loop-c-init : goal.loop-c-init
loop-c-init c = (IsUtf8-nil, c.utf8.text, ap (λ w. after_marks w (chars c.args.text.now)) chars-nil)
