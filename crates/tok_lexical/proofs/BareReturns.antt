-- What a literal holds.
use Rattle.std.proofs.Common.{◌≡◌, ◌∙◌, arith, ℕ, List, [], ◌∷◌, ◌++◌, refl, sym, true, false, Bool}
use Rattle.std.specs.Prelude.{◌==◌, ◌||◌, not}
use Rattle.std.specs.List.{list_all, list_any}
use Rattle.std.specs.Str.{chars, IsUtf8}
use Rattle.std.proofs.lemmas.Bool.{false≢true, eqb-true, false_from_ne_true, ne_eqb}
use Rattle.std.proofs.Math.Bool.{or-false}
use Rattle.tok_lexical.specs.Contents.{has_bare_return, has_return, has_misfit, is_unfit}
use Rattle.tok_lexical.specs.Pieces.{Skips, Stops, is_neither, begins_with}
use Rattle.tok_lexical.specs.declared.contents.Contents.TheVariants.{Text}
use Rattle.tok_lexical.proofs.NestedComments.{neither_first}
use Rattle.tok_lexical.proofs.Scans.{any_byte}

-- a run with no U+000D
bare_run : (front rest : List ℕ) → list_all (is_neither 13 13) front ≡ true →
    has_bare_return (front ++ rest) ≡ has_bare_return rest
bare_run [] rest h = refl
bare_run (c ∷ front) rest h =
    let n = neither_first 13 13 c front h in rw (ne_eqb c 13 n.0) (bare_run front rest n.2)

pub bare_skipped : (text front rest : List ℕ) → Skips (is_neither 13 13) text front rest →
    has_bare_return text ≡ has_bare_return rest
bare_skipped text front rest s = rw s.cut (bare_run front rest s.pass)

pub bare_found : (rest after : List ℕ) (b : Bool) → rest ≡ 13 ∷ after → begins_with 10 after
    ≡ b → has_bare_return rest ≡ (not b || has_bare_return after)
bare_found rest after b e f = rw (e, f) refl

pub bare_none : (rest : List ℕ) → Stops (is_neither 13 13) rest →
    ((more : List ℕ) → rest ≡ 13 ∷ more → ⊥) → has_bare_return rest ≡ false
bare_none [] s n = refl
bare_none (c ∷ rest) s n = let none = n rest in absurd (grind arith)

-- a text may hold any character
text_fits : (piece : List ℕ) → has_misfit Text piece ≡ false
text_fits [] = refl
text_fits (c ∷ piece) = text_fits piece

pub text_unfit : (piece : List ℕ) → has_bare_return piece ≡ is_unfit Text piece
text_unfit piece = rw (text_fits piece, or-false (has_bare_return piece)) refl

-- a U+000D is a byte of its own
pub return_byte : (text : List ℕ) → IsUtf8 text → list_any (λ b. b == 13) text
    ≡ has_return (chars text)
return_byte text u =
    any_byte (λ b. b == 13) (λ b e. rw (eqb-true b 13 e) (omega arith)) text u

-- a text with no U+000D has no bare one
bare_is_one : (text : List ℕ) → has_return text ≡ false → has_bare_return text ≡ false
bare_is_one [] h = refl
bare_is_one (c ∷ text) h = let more = bare_is_one text in grind (arith, more)

pub none_bare : (text : List ℕ) (returns : Bool) → (has_return text ≡ true → returns ≡ true) →
    returns ≡ false → has_bare_return text ≡ false
none_bare text returns h r =
    bare_is_one text (false_from_ne_true (has_return text) (λ e. false≢true (sym r ∙ h e)))
