-- What a value leaves of a text is an end of it.
use Rattle.std.proofs.Common.{◌≡◌, ◌<◌, ℕ, List, ◌∷◌, [], Bool, None, Option, Some}
use Rattle.std.proofs.Common.{arith, ap, length, length-append, refl}
use Rattle.std.specs.Prelude.{◌==◌, ◌&&◌, cond, nat_le, not}
use Rattle.std.specs.Char.{is_digit}
use Rattle.std.proofs.lemmas.Bool.{cond_both}
use Rattle.tok_lexical.specs.Pieces.{after_first, begins_with, from_first}
use Rattle.tok_lexical.specs.Strings.{is_char}
use Rattle.tok_values.specs.Escapes.{and_rest, code, escape, hex, simple}
use Rattle.tok_values.specs.Strings.{Means, alone, ends_line, is_blank, more, nothing, one_char, unit}
use Rattle.tok_values.specs.Strings.{without_blanks}
use Rattle.tok_values.proofs.Fronts.{EndsWith, either, first_ends, past, through, whole}

-- what is left after a value, if there is one, is an end of the text
abbrev pub LeavesEnd : {A : Type 0} → List ℕ → Option (A × List ℕ) → Type 0
LeavesEnd text None = Unit {0}
LeavesEnd text (Some p) = EndsWith p.1 text

of_either : {A : Type 0} (text : List ℕ) (b : Bool) (x y : Option (A × List ℕ)) →
    LeavesEnd text x → LeavesEnd text y → LeavesEnd text (cond b x y)
of_either text b x y h k = cond_both b x y (LeavesEnd text) (λ _. h) (λ _. k)

from_first_ends : (c : ℕ) (text : List ℕ) → EndsWith (from_first c text) text
from_first_ends c [] = whole []
from_first_ends c (d ∷ text) =
    either (d ∷ text) (d == c) _ _ (whole (d ∷ text))
    (past d (from_first c text) text (from_first_ends c text))

blanks_end : (text : List ℕ) → EndsWith (without_blanks text) text
blanks_end [] = whole []
blanks_end (c ∷ text) =
    either (c ∷ text) (is_blank c) _ _ (past c (without_blanks text) text (blanks_end text))
    (whole (c ∷ text))

-- a character before an end of the text
found_ends : (text rest : List ℕ) (found : Option ℕ) → EndsWith rest text →
    LeavesEnd text (and_rest found rest)
found_ends text rest None h = tt
found_ends text rest (Some c) h = h

-- more text before it
behind : {A : Type 0} (c : ℕ) (text : List ℕ) (found : Option (A × List ℕ)) →
    LeavesEnd text found → LeavesEnd (c ∷ text) found
behind c text None h = tt
behind c text (Some p) h = past c p.1 text h

hex_ends : (top : ℕ) (text : List ℕ) → LeavesEnd text (hex top text)
hex_ends top [] = tt
hex_ends top (high ∷ []) = tt
hex_ends top (high ∷ low ∷ rest) =
    of_either (high ∷ low ∷ rest) (is_digit high top && is_digit low 16) _ _
    (high ∷ low ∷ [], refl) tt

code_ends : (text : List ℕ) → LeavesEnd text (code text)
code_ends [] = tt
code_ends (c ∷ text) =
    let closed = from_first 125 text in
    of_either (c ∷ text) ((c == 123) && begins_with 125 closed) _ _
    (found_ends (c ∷ text) (after_first closed) _
    (past c (after_first closed) text
    (through text closed (after_first closed) (from_first_ends 125 text) (first_ends closed))))
    tt

escape_ends : (wide : Bool) (text : List ℕ) → LeavesEnd text (escape wide text)
escape_ends wide [] = tt
escape_ends wide (c ∷ rest) =
    of_either (c ∷ rest) (c == 120) _ _ (behind c rest _ (hex_ends _ rest))
    (of_either (c ∷ rest) (c == 117) _ _
    (of_either (c ∷ rest) wide _ _ tt (behind c rest _ (code_ends rest)))
    (found_ends (c ∷ rest) rest (simple c) (c ∷ [], refl)))

alone_ends : (text : List ℕ) (found : Option (ℕ × List ℕ)) → LeavesEnd text found →
    LeavesEnd text (alone found)
alone_ends text None h = tt
alone_ends text (Some p) h = h

-- a unit takes a character at least
unit_left : (wide : Bool) (c : ℕ) (rest : List ℕ) → LeavesEnd rest (unit wide (c ∷ rest))
unit_left wide c rest =
    of_either rest (c == 92) _ _
    (of_either rest (ends_line rest) _ _ (blanks_end rest)
    (alone_ends rest (escape wide rest) (escape_ends wide rest)))
    (of_either rest (c == 34) _ _ tt
    (of_either rest (c == 13) _ _ (of_either rest (begins_with 10 rest) _ _ (first_ends rest) tt)
    (of_either rest (wide && nat_le 128 c) _ _ tt (whole rest))))

unit_ends : (wide : Bool) (text : List ℕ) → LeavesEnd text (unit wide text)
unit_ends wide [] = tt
unit_ends wide (c ∷ rest) = behind c rest _ (unit_left wide c rest)

pub unit_lowers : (wide : Bool) (text front after : List ℕ) → unit wide text ≡ Some (front, after)
    → length after < length text
unit_lowers wide [] front after e = absurd (cc)
unit_lowers wide (c ∷ rest) front after e =
    let (taken, cut) = rw e at (unit_left wide c rest) in
    omega (arith, ap length cut, length-append taken after)

pub char_ends : (wide : Bool) (text : List ℕ) → LeavesEnd text (one_char wide text)
char_ends wide [] = tt
char_ends wide (c ∷ rest) =
    of_either (c ∷ rest) (c == 92) _ _ (behind c rest _ (escape_ends wide rest))
    (of_either (c ∷ rest) (is_char c && not (wide && nat_le 128 c)) _ _ (c ∷ [], refl) tt)

pub means_end : (wide : Bool) {text rest meaning : List ℕ} → Means wide text rest meaning →
    EndsWith rest text
means_end wide (nothing text) = whole text
means_end wide (more text after rest front meaning e m) =
    through text after rest (rw e at (unit_ends wide text)) (means_end wide m)
