-- The names that a caller writes are identifiers.
use Rattle.std.proofs.Common.{◌≡◌, ◌∙◌, ap, sym, subst, refl, ℕ, zero, suc, true, ◌<◌, [], ◌∷◌}
use Rattle.std.proofs.Common.{arith}
use Rattle.std.specs.Prelude.{codes, slice_index, ◌==◌, ◌||◌}
use Rattle.std.specs.Char.{is_ascii_alphabetic}
use Rattle.std.specs.Str.{chars}
use Rattle.std.proofs.lemmas.Str.{chars-IsAscii}
use Rattle.unicode_ident.proofs.IdentLemmas.{is_xid_start-ascii}
use Rattle.tok_lexical.specs.Words.{IsIdentifier}

ascii_at : (c : ℕ) → c < 128 → (i : ℕ) → slice_index (c ∷ []) i < 128
ascii_at c h zero = h
ascii_at c h (suc i) = omega arith

one_letter : (c : ℕ) → c < 128 → is_ascii_alphabetic c ≡ true → IsIdentifier (chars (c ∷ []))
one_letter c h letter =
    let start = ap (λ b. b || (c == 95)) (is_xid_start-ascii c h ∙ letter) in
    subst IsIdentifier (sym (chars-IsAscii (c ∷ []) (ascii_at c h))) (start, refl)

pub a_identifier : IsIdentifier (chars (codes "a"))
a_identifier = one_letter 97 (omega arith) refl

pub b_identifier : IsIdentifier (chars (codes "b"))
b_identifier = one_letter 98 (omega arith) refl

pub c_identifier : IsIdentifier (chars (codes "c"))
c_identifier = one_letter 99 (omega arith) refl
