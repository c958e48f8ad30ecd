-- Doc comments.
use Rattle.std.proofs.Common.{◌≡◌, ◌∙◌, ℕ, zero, suc, ◌-◌, ◌<◌, get_or, List, [], ◌∷◌, ◌++◌}
use Rattle.std.proofs.Common.{length, length-append, take, refl, sym, ap, arith, true, false, Bool}
use Rattle.std.specs.Str.{chars}
use Rattle.std.proofs.lemmas.Bool.{false≢true, false_from_ne_true}
use Rattle.tok_lexical.specs.Contents.{has_return}
use Rattle.tok_lexical.specs.Docs.{after_mark, breaks_line, line_doc_text}
use Rattle.tok_lexical.specs.Pieces.{after_first, from_first, up_to}
use Rattle.std.proofs.Math.Seq.{take-append_seam}
use Rattle.std.proofs.lemmas.Str.{chars-IsAscii}
use Rattle.std.proofs.lemmas.Str.Ascii.{IsAscii-nil}
use Rattle.tok_lexical.specs.Comments.{Closes, done, nested, ended, plain, IsBlockComment}
use Rattle.tok_lexical.specs.Comments.{is_block_doc}

-- a block comment ends with its mark
closes_end : (n : ℕ) (body : List ℕ) → Closes (suc n) body → (front : List ℕ)
    × (body ≡ front ++ 42 ∷ 47 ∷ [])
closes_end n body (nested {text = text} c) = let w = closes_end (suc n) text c in
    (47 ∷ 42 ∷ w.0, cc (w.1))
closes_end zero body (ended {text = text} done) = ([], refl)
closes_end (suc n) body (ended {text = text} c) = let w = closes_end n text c in
    (42 ∷ 47 ∷ w.0, cc (w.1))
closes_end n body (plain {c = c} {text = text} p k) = let w = closes_end n text k in
    (c ∷ w.0, cc (w.1))

pub block_end : (piece : List ℕ) → IsBlockComment piece → is_block_doc piece ≡ true → (c : ℕ)
    × (front : List ℕ) × (piece ≡ 47 ∷ 42 ∷ c ∷ (front ++ 42 ∷ 47 ∷ []))
block_end piece (body, e, k) doc = let w = closes_end 0 body k in go w.0 (cc (w.1))
  where
    go : (front : List ℕ) → piece ≡ 47 ∷ 42 ∷ (front ++ 42 ∷ 47 ∷ []) → (c : ℕ)
        × (front : List ℕ) × (piece ≡ 47 ∷ 42 ∷ c ∷ (front ++ 42 ∷ 47 ∷ []))
    go [] f = absurd (false≢true (rw f at doc))
    go (c ∷ front) f = (c, front, f)

pub without_end : (text front : List ℕ) → text ≡ front ++ 42 ∷ 47 ∷ [] →
    take (length text - 2) text ≡ front
without_end text front e =
    let m : length text - 2 ≡ length front =
    omega (arith, ap length e, length-append front (42 ∷ 47 ∷ [])) in
    rw (m, e) (take-append_seam front (42 ∷ 47 ∷ []))

mark_ascii : (i : ℕ) → get_or (42 ∷ 47 ∷ []) i 0 < 128
mark_ascii zero = omega arith
mark_ascii (suc zero) = omega arith
mark_ascii (suc (suc i)) = IsAscii-nil i

pub mark_chars : chars (42 ∷ 47 ∷ []) ≡ 42 ∷ 47 ∷ []
mark_chars = chars-IsAscii (42 ∷ 47 ∷ []) mark_ascii

-- a text with no U+000D
pub no_return : (b : Bool) (text : List ℕ) → (has_return text ≡ true → b ≡ true) → b ≡ false →
    has_return text ≡ false
no_return b text may none =
    false_from_ne_true (has_return text) (λ h. false≢true (sym none ∙ may h))

no_return_after : (text : List ℕ) → has_return text ≡ false → has_return (after_first text) ≡ false
no_return_after [] h = h
no_return_after (c ∷ rest) h = grind arith

-- is its own front up to one, and has none to begin at
pub whole_up_to : (text : List ℕ) → has_return text ≡ false → (up_to 13 text ≡ text)
    × (from_first 13 text ≡ [])
whole_up_to [] h = (refl, refl)
whole_up_to (c ∷ rest) h =
    let more = whole_up_to rest in grind (arith, more)

pub never_breaks : (text after : List ℕ) → has_return text ≡ false → breaks_line text after ≡ false
never_breaks text after h = rw (whole_up_to text h).1 refl

pub whole_doc_text : (piece : List ℕ) → has_return piece ≡ false → after_mark piece
    ≡ line_doc_text piece
whole_doc_text piece h =
    sym (whole_up_to (after_mark piece)
    (no_return_after (after_first (after_first piece)) (no_return_after (after_first piece)
    (no_return_after piece h)))).0
