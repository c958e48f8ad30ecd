use Rattle.std.proofs.Common.{◌≡◌, ◌∷◌, []}
use Rattle.tok_lexical.proofs.FloatTails.{point_begins, tries_point}
use Rattle.tok_lexical.proofs.Digits.{tries_digits}
use Rattle.tok_lexical.proofs.floats.past_pointed.Goals as goal

pub returns-clause-tries : goal.returns-clause-tries
returns-clause-tries c = tries_digits (λ tail. tail ≡ 46 ∷ []) point_begins _ _ _ _
    c.in_ok-rest.ensures.digits.1.1 c.in_ok-rest.ensures.digits.0
    (tries_point _ _ c.past_char.ensures.chars)
