-- Which rule takes the front of a text: the first that fits.
use Rattle.std.specs.Prelude.{◌<◌, ℕ, List, ◌∷◌, length, Option, MatchOption, slice_index_or}
use Rattle.std.specs.Borrow.{Bor}
use Rattle.std.specs.Str.{chars}
use Rattle.tok_lexical.specs.Pieces.{HasPrefix, IsLongestPrefix}
use Rattle.tok_lexical.specs.Rules.{Spells}
use Rattle.tok_lexical.specs.declared.rule.Rule.{Rule}

-- The first of the rules that fits at the front of the text is this one, and it takes this piece,
-- before this rest.
pub data IsFirstFit (text : List ℕ) : List Rule → Rule → List ℕ → List ℕ → Type 0 where
  here : {rule : Rule} {rules : List Rule} {piece rest : List ℕ} →
      IsLongestPrefix (Spells rule) text piece rest → IsFirstFit text (rule ∷ rules) rule piece rest
  later : {other rule : Rule} {rules : List Rule} {piece rest : List ℕ} →
      (HasPrefix (Spells other) text → ⊥) → IsFirstFit text rules rule piece rest →
      IsFirstFit text (other ∷ rules) rule piece rest

-- no rule before the place fits
pub record NoneBefore (rules : List Rule) (text : List ℕ) (i : ℕ) : Type 0 where
  pub none : (j : ℕ) (d : Rule) → j < i → j < length rules →
      HasPrefix (Spells (slice_index_or rules j d)) text → ⊥

-- what a function that tries the rules in turn returns
abbrev pub ReadsByRules : List Rule → List ℕ → Option (Rule × Bor (List ℕ)) → Type 0
ReadsByRules rules text answer =
    MatchOption answer (NoneBefore rules text (length rules))
    (λ found. (piece : List ℕ) × IsFirstFit text rules found.0 piece (chars found.1.now))
