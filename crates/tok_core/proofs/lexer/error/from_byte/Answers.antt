use Rattle.std.proofs.Common.{refl}
use Rattle.std.proofs.lemmas.Bool.{false≢true}
use Rattle.tok_core.proofs.Lexical.Explained.{from_boundary, no_boundary}
use Rattle.tok_core.proofs.lexer.error.from_byte.Goals as goal

pub returns-in_err-after-clause-cut : goal.returns-in_err-after-clause-cut
returns-in_err-after-clause-cut c =
    rw c.from_residual.ensures
    (λ front rest. no_boundary c.args.text.now front rest c.args.at c.utf8.text
    (λ b. false≢true (c.in_err-after.ensures.variant.1 b)))

pub returns-clause-cut : goal.returns-clause-cut
returns-clause-cut c =
    from_boundary c.args.text.now _ _ c.args.at c.utf8.text (c.in_ok-after.ensures.variant.0 refl)
    c.in_ok-after.ensures.front c.in_ok-after.ensures.back c.in_ok-after.ensures.front_len
