use Rattle.std.proofs.Common.{◌∙◌}
use Rattle.tok_lexical.proofs.Identifiers.{no_raw_chars}
use Rattle.tok_lexical.proofs.words.has_no_raw.Goals as goal

pub returns : goal.returns
returns c = c.is_never_raw.ensures ∙ no_raw_chars _ c.utf8.word
