use Rattle.std.proofs.Common.{sym, subst, ◌≡◌, ◌≤◌, length}
use Rattle.std.specs.Str.{chars}
use Rattle.syn_replay.proofs.Punctuations.{punctuation-short, punctuation-text-chars}
use Rattle.syn_replay.proofs.session.tokens.parse.Goals as goal

pub punctuation-requires-clause-short : goal.punctuation-requires-clause-short
punctuation-requires-clause-short c =
    subst (λ t. length t ≤ 3) (sym c.punctuation_text.ensures)
    (punctuation-short c.in-Punctuation.k)

pub punctuation-requires-clause-ascii : goal.punctuation-requires-clause-ascii
punctuation-requires-clause-ascii c =
    subst (λ t. chars t ≡ t) (sym c.punctuation_text.ensures)
    (punctuation-text-chars c.in-Punctuation.k)
