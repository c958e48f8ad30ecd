-- What is known in the middle of a text: the rules tried so far, and the trees so far.
use Rattle.std.specs.Prelude.{◌≡◌, ℕ, suc, ◌+◌, ◌-◌, ◌≤◌, List, [], ◌∷◌, ◌++◌, length}
use Rattle.std.specs.Prelude.{Some, None, true, slice_index_or}
use Rattle.tok_core.specs.Building.{Levels}
use Rattle.tok_core.specs.Forest.{Forest}
use Rattle.tok_core.specs.Lexical.Items.{Item, opening, Flat, depth, most_levels, IsOpenBy}
use Rattle.tok_lexical.specs.Errors.{error_kind}
use Rattle.tok_core.specs.Lexical.Reading.{Cut}
use Rattle.tok_core.specs.Lexical.Meaning.{opens_group}
use Rattle.tok_lexical.specs.declared.rule.Mode.{Mode}
use Rattle.tok_lexical.specs.declared.delimiter.Delimiter.{Delimiter}
use Rattle.tok_lexical.specs.declared.rule.Rule.{Rule}
use Rattle.tok_lexical.specs.declared.rule.Rule.TheVariants.{Whitespace, Closing, Other}
use Rattle.tok_lexical.specs.declared.lex_error_kind.LexErrorKind.{LexErrorKind}
use Rattle.tok_lexical.specs.declared.lex_error_kind.LexErrorKind.TheVariants.{UnexpectedClosing, DeepGroup}
use Rattle.tok_core.specs.declared.lexer.nest.Nest.{Nest}

-- the last rule takes any character
abbrev pub EndsInOther : List Rule → Type 0
EndsInOther rules = slice_index_or rules (length rules - 1) Whitespace ≡ Other

-- so many bytes at the front of the text mean nothing, in every mode, and the rest is
-- what follows them
abbrev pub IsBlank : List ℕ → List ℕ → ℕ → Type 0
IsBlank text rest n =
    (mode : Mode) (number at : ℕ) → Cut mode number at text [] (at + n) rest

-- the groups that are open, outermost first, and what is built so far
pub record State : Type 0 where
  pub source : ℕ
  pub groups : List (Delimiter × ℕ)
  pub levels : Levels

-- the source, the open groups and the levels that a nest stands for
abbrev pub state : {B : Type 0} → (B → Levels) → Nest B → State
state levels nest =
    record { source = nest.source; groups = nest.«open».items; levels = levels nest.built }

-- there are trees before each open group
abbrev pub IsPaired : State → Type 0
IsPaired s = length s.groups ≡ length s.levels.outer

-- the items of the trees so far: before each open group, and at the innermost level
pub data Holds (number : ℕ) :
    ℕ → List (Delimiter × ℕ) → List Forest → Forest → List Item → Type 0 where
  last : {n : ℕ} {f : Forest} {all : List Item} → depth f ≤ n → Flat number f all →
      Holds number n [] [] f all
  outer : {n start : ℕ} {delimiter : Delimiter} {groups : List (Delimiter × ℕ)}
      {earlier f : Forest} {levels : List Forest} {before all : List Item} →
      depth earlier ≤ suc n → Flat number earlier before → Holds number n groups levels f all →
      Holds number (suc n) ((delimiter, start) ∷ groups) (earlier ∷ levels) f
      (before ++ opening delimiter start ∷ all)

-- these are the items of all trees so far, which have at most 256 levels
abbrev pub HoldsAll : ℕ → State → List Item → Type 0
HoldsAll number s all = Holds number most_levels s.groups s.levels.outer s.levels.inner all

-- the open groups begin at this byte or before it
abbrev pub Reached : List (Delimiter × ℕ) → ℕ → Type 0
Reached [] at = Unit {0}
Reached (g ∷ groups) at = (g.1 ≤ at) × Reached groups at

-- a piece at this byte adds these items
pub record Grows (at : ℕ) (old new : State) (more : List Item) : Type 0 where
  pub same_source : new.source ≡ old.source
  pub reached : Reached old.groups at → Reached new.groups at
  pub holds : (all : List Item) → HoldsAll old.source old all →
      HoldsAll old.source new (all ++ more)

-- why this piece is rejected, with these groups open
pub data Halts (levels : List (Delimiter × ℕ)) (rule : Rule) (mode : Mode) (at : ℕ)
    (piece after : List ℕ) : LexErrorKind → Type 0 where
  by_meaning : {why : LexErrorKind} → error_kind rule mode at piece after ≡ Some why →
      Halts levels rule mode at piece after why
  unfit : (delimiter : Delimiter) → rule ≡ Closing delimiter → (IsOpenBy levels delimiter → ⊥) →
      Halts levels rule mode at piece after UnexpectedClosing
  deep : error_kind rule mode at piece after ≡ None → opens_group rule piece ≡ true →
      length levels ≡ most_levels → Halts levels rule mode at piece after DeepGroup

-- this is the error of an opening: 256 groups are open already
abbrev pub IsTooDeep : State → LexErrorKind → Type 0
IsTooDeep s why = (why ≡ DeepGroup) × (length s.groups ≡ most_levels)

-- this is the error of a closing: the innermost open group, if any, has another delimiter
abbrev pub IsUnfit : State → Delimiter → LexErrorKind → Type 0
IsUnfit s delimiter why = (why ≡ UnexpectedClosing) × (IsOpenBy s.groups delimiter → ⊥)
