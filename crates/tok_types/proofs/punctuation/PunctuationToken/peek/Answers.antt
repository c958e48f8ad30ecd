use Rattle.std.proofs.Common.{◌∙◌, ap, is_some}
use Rattle.std.specs.Str.{chars}
use Rattle.tok_buffer.specs.Cursors.{place_of}
use Rattle.tok_buffer.specs.Reads.{read_punctuation}
use Rattle.tok_types.proofs.Seen.{punctuation_seen}
use Rattle.tok_types.proofs.Words.{punctuation-chars}
use Rattle.tok_types.proofs.punctuation.PunctuationToken.peek.Goals as goal

pub returns-clause-peeks : goal.returns-clause-peeks
returns-clause-peeks g c = c.peek_punct.ensures
    ∙ ap (λ t. is_some (read_punctuation t (place_of c.args.cursor))) (ap chars c.text.ensures
    ∙ punctuation-chars g.row.K g.row.N)

pub returns-clause-sees : goal.returns-clause-sees
returns-clause-sees g c =
    punctuation_seen g.row.K g.row.N (place_of c.args.cursor) _ (c.peek_punct.ensures
    ∙ ap (λ t. is_some (read_punctuation t (place_of c.args.cursor)))
    (ap chars c.text.ensures ∙ punctuation-chars g.row.K g.row.N))
