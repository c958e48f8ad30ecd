-- One rule takes the front of a text.
use Rattle.std.proofs.Common.{◌≡◌, ℕ, List, [], ◌∷◌, length, length-append, ap, refl, arith}
use Rattle.std.specs.Prelude.{Bool, true, false, cond}
use Rattle.tok_lexical.specs.Pieces.{IsLongestPrefix}
use Rattle.tok_lexical.specs.Fits.{IsFirstFit, here, later}
use Rattle.tok_lexical.specs.Rules.{all_rules, among, is_in, rules_of, Spells}
use Rattle.tok_lexical.specs.declared.rule.Mode.{Mode}
use Rattle.tok_lexical.specs.declared.rule.Rule.{Rule}
use Rattle.tok_lexical.proofs.Heads.{spelled_one}
use Rattle.tok_lexical.proofs.Longest.{takes_unique}

pub fits_longest : {text : List ℕ} {rules : List Rule} {rule : Rule} {piece rest : List ℕ} →
    IsFirstFit text rules rule piece rest → IsLongestPrefix (Spells rule) text piece rest
fits_longest (here t) = t
fits_longest (later misses d) = fits_longest d

pub decides_unique : {text : List ℕ} {rules : List Rule} {rule other : Rule} {p r q s : List ℕ} →
    IsFirstFit text rules rule p r → IsFirstFit text rules other q s → (rule ≡ other) × (p ≡ q)
    × (r ≡ s)
decides_unique {text} {rule = rule} {p = p} {r = r} {q = q} {s = s} (here t) (here u) =
    let w = takes_unique (Spells rule) text p r q s t u in (refl, w.0, w.1)
decides_unique {p = p} {r = r} (here t) (later misses e) = absurd (misses (p, r, t.cut, t.spelled))
decides_unique {q = q} {s = s} (later misses d) (here u) = absurd (misses (q, s, u.cut, u.spelled))
decides_unique (later misses d) (later misses' e) = decides_unique d e

pub decides_nothing : {rules : List Rule} {rule : Rule} {p r : List ℕ} →
    IsFirstFit [] rules rule p r → ⊥
decides_nothing {rule = rule} {p = p} {r = r} d =
    let t = fits_longest d in
    let one = spelled_one rule p t.spelled in
    omega (arith, one, ap length t.cut, length-append p r)

-- the rule that takes the front is one of the mode's
first_in : {text piece rest : List ℕ} (mode : Mode) (q rule : Rule) (some : List Rule) (b : Bool) →
    is_in mode q ≡ b → IsFirstFit text (cond b (q ∷ some) some) rule piece rest →
    (IsFirstFit text some rule piece rest → is_in mode rule ≡ true) → is_in mode rule ≡ true
first_in mode q rule some true e (here t) more = e
first_in mode q rule some true e (later misses d) more = more d
first_in mode q rule some false e d more = more d

fits_among : {text piece rest : List ℕ} (mode : Mode) (rule : Rule) (those : List Rule) →
    IsFirstFit text (among mode those) rule piece rest → is_in mode rule ≡ true
fits_among mode rule [] d = elim d [ ]
fits_among mode rule (q ∷ those) d = first_in mode q rule (among mode those) (is_in mode q) refl d
    (fits_among mode rule those)

pub fits_in : {text piece rest : List ℕ} (mode : Mode) (rule : Rule) →
    IsFirstFit text (rules_of mode) rule piece rest → is_in mode rule ≡ true
fits_in mode rule d = fits_among mode rule all_rules d
