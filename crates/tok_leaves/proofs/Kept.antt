-- The front of a buffer that a text was copied to.
use Rattle.std.proofs.Common.{◌≡◌, ◌∙◌, ◌≤◌, refl, sym, ap, ℕ, List, [], ◌∷◌, ◌++◌, length, arith}
use Rattle.std.proofs.Math.Seq.{take-append_seam}
use Rattle.std.proofs.lemmas.List.{take-append-le, take-append-drop, length-take-le}
use Rattle.std.proofs.lemmas.Str.{encodes-append, encodes-chars}
use Rattle.std.specs.Prelude.{encode_utf8_all, drop, take}
use Rattle.std.specs.Str.{chars, IsUtf8}

all_front : (t rest : List ℕ) → take (length t) (t ++ rest) ≡ t
all_front [] rest = refl
all_front (x ∷ t) rest = ap (λ w. x ∷ w) (all_front t rest)

pub front : (t new rest : List ℕ) → new ≡ t → take (length t) (new ++ rest) ≡ t
front t new rest e = ap (λ w. take (length t) (w ++ rest)) e ∙ all_front t rest

-- the front of a buffer to which 14 bytes of a text that begins with a piece were copied
pub wide : (piece text new rest : List ℕ) → IsUtf8 piece → IsUtf8 text → length piece ≤ 14 →
    14 ≤ length text → chars text ≡ chars piece ++ rest → new ≡ take 14 text →
    take (length piece) new ≡ piece
wide piece text new rest u v short long e is =
    let tail = encode_utf8_all rest in
    let whole : text ≡ piece ++ tail = sym (encodes-chars text v) ∙ ap encode_utf8_all e
    ∙ encodes-append (chars piece) rest ∙ ap (λ w. w ++ tail) (encodes-chars piece u) in
    let room : length (take 14 text) ≡ 14 = length-take-le 14 text long in
    ap (take (length piece)) is
    ∙ sym (take-append-le (length piece) (take 14 text) (drop 14 text) (omega arith))
    ∙ ap (take (length piece)) (take-append-drop 14 text ∙ whole)
    ∙ take-append_seam piece tail
