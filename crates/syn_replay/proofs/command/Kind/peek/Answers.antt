use Rattle.std.proofs.Common.{◌∙◌, sym, ap}
use Rattle.std.specs.Prelude.{is_some}
use Rattle.std.specs.Str.{chars}
use Rattle.tok_buffer.specs.Cursors.{place_of}
use Rattle.tok_buffer.specs.Reads.{read_punctuation}
use Rattle.syn_replay.specs.Kinds.{peek_kind}
use Rattle.syn_replay.specs.Meanings.{kind_of}
use Rattle.syn_replay.proofs.Punctuations.{punctuation-text-chars}
use Rattle.syn_replay.proofs.command.Kind.peek.Goals as goal

pub returns-in-Punctuation : goal.returns-in-Punctuation
returns-in-Punctuation c =
    let p = place_of c.args.cursor in
    c.peek_punct.ensures
    ∙ ap (λ t. is_some (read_punctuation t p)) (ap chars c.punctuation_text.ensures
    ∙ punctuation-text-chars c.in-Punctuation.k)
    ∙ ap (λ k. peek_kind (kind_of k) p) (sym c.in-Punctuation.is)
