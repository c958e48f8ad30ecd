use Rattle.std.proofs.Common.{Err, subst}
use Rattle.tok_values.specs.Values.{HasValue}
use Rattle.example_config.proofs.Meanings.{says, too_large}
use Rattle.example_config.proofs.read.no_number.Goals as goal

pub returns-in-TooLarge : goal.returns-in-TooLarge
returns-in-TooLarge c = λ wanted h a.
    let large = subst (λ fault. HasValue wanted (Err fault)) c.in-TooLarge.is h in
    says _ a c.args.span _ c.at.result (too_large c.args.span wanted a large) c.at.ensures.words
