use Rattle.std.proofs.Common.{◌∙◌, sym}
use Rattle.std.specs.Prelude.{None}
use Rattle.tok_lexical.proofs.Units.{takes_suffix}
use Rattle.tok_lexical.proofs.Identifiers.{no_name}
use Rattle.tok_lexical.proofs.words.past_suffix.Goals as goal

pub returns-then-starts_name : goal.returns-then-starts_name
returns-then-starts_name c =
    rw c.unwrap_or.ensures
    (takes_suffix c.args.text c.past_identifier.result c.past_identifier.ensures.tries)

pub returns-else-starts_name : goal.returns-else-starts_name
returns-else-starts_name c = takes_suffix c.args.text None
    (no_name _ (sym c.starts_name.ensures ∙ c.if-starts_name.false))
