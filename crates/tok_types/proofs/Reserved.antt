-- The reserved texts by their first byte.
use Rattle.std.proofs.Common.{◌≡◌, ◌<◌, sym, ap, refl, ℕ, Bool, true, ◌||◌}
use Rattle.std.proofs.Common.{List, [], ◌∷◌, Bor, length, get_or, arith}
use Rattle.std.specs.Prelude.{bytes_eq, ◌==◌}
use Rattle.std.specs.List.{list_all, list_any}
use Rattle.std.proofs.lemmas.Bool.{false≢true, and_parts}
use Rattle.tok_types.specs.Texts.{accept_as_ident, beginning, is_among, reserved, texts_of}

-- only a text that begins alike is this one
among_beginning : (ts : List (List ℕ)) (c : ℕ) (s : List ℕ) → is_among (beginning c ts) (c ∷ s)
    ≡ is_among ts (c ∷ s)
among_beginning [] c s = refl
among_beginning (t ∷ ts) c s = let more = among_beginning ts c s in grind arith

-- the texts of a table
among_rows : (rows : List (Bor (List ℕ))) (text : List ℕ) →
    list_any (λ (row : Bor (List ℕ)). bytes_eq row.now text) rows ≡ is_among (texts_of rows) text
among_rows [] text = refl
among_rows (row ∷ rows) text = ap (λ w. bytes_eq row.now text || w) (among_rows rows text)

pub rows_tell_reserved : (rows : List (Bor (List ℕ))) (text : List ℕ) (first : ℕ) →
    0 < length text → first ≡ get_or text 0 0 → texts_of rows ≡ beginning first reserved →
    list_any (λ (row : Bor (List ℕ)). bytes_eq row.now text) rows ≡ is_among reserved text
rows_tell_reserved rows [] first l f e = absurd (omega arith)
rows_tell_reserved rows (c ∷ s) first l f e =
    rw (among_rows rows (c ∷ s), e, f) (among_beginning reserved c s)

pub empty_accepted : (text : List ℕ) → length text ≡ 0 → accept_as_ident text ≡ true
empty_accepted text h = grind arith

-- their first bytes
abbrev pub firsts : List ℕ
firsts = 83 ∷ 95 ∷ 97 ∷ 98 ∷ 99 ∷ 100 ∷ 101 ∷ 102 ∷ 105 ∷ 108 ∷ 109 ∷ 111 ∷ 112 ∷ 114 ∷ 115 ∷ 116
    ∷ 117 ∷ 118 ∷ 119 ∷ 121 ∷ []

-- the byte is none of these
abbrev pub IsNone : ℕ → List ℕ → Type 0
IsNone b [] = Unit {0}
IsNone b (f ∷ fs) = (b ≡ f → ⊥) × IsNone b fs

apart : (b c : ℕ) (fs : List ℕ) → IsNone b fs → list_any (λ f. c == f) fs ≡ true → c ≡ b → ⊥
apart b c [] none h e = false≢true h
apart b c (f ∷ fs) none h e = let more = apart b c fs none.1 in grind arith

abbrev begins_known : List ℕ → Bool
begins_known [] = true
begins_known (c ∷ t) = list_any (λ f. c == f) firsts

none_begins : (b : ℕ) (ts : List (List ℕ)) → IsNone b firsts → list_all begins_known ts ≡ true →
    beginning b ts ≡ []
none_begins b [] none h = refl
none_begins b ([] ∷ ts) none h = none_begins b ts none h
none_begins b ((c ∷ t) ∷ ts) none h =
    let parts = and_parts (list_any (λ f. c == f) firsts) (list_all begins_known ts) h in
    let other = apart b c firsts none parts.0 in
    let more = none_begins b ts none parts.1 in
    grind arith

-- no reserved text begins with another byte
pub none_reserved : (b : ℕ) → IsNone b firsts → beginning b reserved ≡ []
none_reserved b none = none_begins b reserved none refl

pub same_first : (first b : ℕ) → first ≡ b → beginning b reserved ≡ beginning first reserved
same_first first b e = ap (λ w. beginning w reserved) (sym e)
