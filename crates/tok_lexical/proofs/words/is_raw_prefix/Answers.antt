use Rattle.std.proofs.Common.{◌∙◌}
use Rattle.tok_lexical.proofs.Identifiers.{raw_prefix_chars}
use Rattle.tok_lexical.proofs.words.is_raw_prefix.Goals as goal

pub returns : goal.returns
returns c = c.is_raw_word.ensures ∙ raw_prefix_chars _ c.utf8.word
