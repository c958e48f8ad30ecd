-- The front of a text, appended to a string by its bytes and by its characters.
use Rattle.std.proofs.Common.{◌≡◌, ◌∙◌, ℕ, List, [], ◌∷◌, ◌++◌, length, sym, ap, arith}
use Rattle.std.specs.Prelude.{encode_utf8_all}
use Rattle.std.specs.Str.{chars, IsUtf8}
use Rattle.std.proofs.lemmas.List.{append-nil}
use Rattle.std.proofs.lemmas.Str.{encodes-chars}

pub appended : (old new front : List ℕ) → IsUtf8 front → new ≡ old ++ front →
    new ≡ old ++ encode_utf8_all (chars front)
appended old new front u e = e ∙ ap (λ w. old ++ w) (sym (encodes-chars front u))

-- an empty front
pub none_appended : (old front : List ℕ) → IsUtf8 front → length front ≡ 0 →
    old ≡ old ++ encode_utf8_all (chars front)
none_appended old [] u none = appended old old [] u (sym (append-nil old))
none_appended old (x ∷ front) u none = absurd (omega arith)
