-- A word where an identifier is read.
use Rattle.std.proofs.Common.{◌≡◌, ℕ, Bool, cond, List, [], ◌∷◌, arith}
use Rattle.std.proofs.Common.{Some, None, is_some}
use Rattle.tok_leaves.specs.declared.span.Span.{Span}
use Rattle.tok_leaves.specs.Leaves.{ident}
use Rattle.tok_core.specs.Forest.{leaf}
use Rattle.tok_buffer.specs.Place.{Place}
use Rattle.tok_buffer.specs.Reads.{read_if, is_ident_of, read_ident, read_word}
use Rattle.tok_core.specs.Kinds.{is_ident}

pub word_of : (w : List ℕ → Bool) (q : Place) (text : List ℕ) (span : Span) (r : Place) →
    read_if is_ident q ≡ Some (leaf (ident text span) ∷ [], r) → read_if (is_ident_of w) q
    ≡ cond (w text) (Some (leaf (ident text span) ∷ [], r)) None
word_of w q text span r e = grind arith

pub word_none : (w : List ℕ → Bool) (q : Place) → read_if is_ident q ≡ None →
    read_if (is_ident_of w) q ≡ None
word_none w q e = grind arith

-- a word is read exactly if its text is wanted
pub word_wanted : (w : List ℕ → Bool) (p : Place) (text : List ℕ) (span : Span) (r : Place) →
    read_ident p ≡ Some (leaf (ident text span) ∷ [], r) → is_some (read_word w p) ≡ w text
word_wanted w p text span r e = grind (arith, word_of)
