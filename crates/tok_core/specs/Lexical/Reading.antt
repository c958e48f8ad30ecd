-- The forest that a text reads as, and the error of a text that is rejected.
use Rattle.std.specs.Prelude.{◌≡◌, ℕ, ◌+◌, ◌≤◌, List, [], ◌∷◌, ◌++◌, length, Some, None, true}
use Rattle.tok_lexical.specs.Fits.{IsFirstFit}
use Rattle.tok_core.specs.Forest.{Forest}
use Rattle.tok_core.specs.Lexical.Items.{Item, Flat, depth, most_levels, Opens, IsOpenBy}
use Rattle.tok_lexical.specs.Errors.{error_kind}
use Rattle.tok_core.specs.Lexical.Meaning.{items, opens_group}
use Rattle.tok_lexical.specs.Widths.{width}
use Rattle.tok_lexical.specs.declared.delimiter.Delimiter.{Delimiter}
use Rattle.tok_lexical.specs.Rules.{rules_of}
use Rattle.tok_lexical.specs.declared.rule.Mode.{Mode}
use Rattle.tok_lexical.specs.declared.rule.Rule.{Rule}
use Rattle.tok_lexical.specs.declared.rule.Rule.TheVariants.{Closing}
use Rattle.tok_lexical.specs.declared.lex_error_kind.LexErrorKind.{LexErrorKind}
use Rattle.tok_lexical.specs.declared.lex_error_kind.LexErrorKind.TheVariants.{UnclosedGroup}
use Rattle.tok_lexical.specs.declared.lex_error_kind.LexErrorKind.TheVariants.{UnexpectedClosing, DeepGroup}
use Rattle.tok_core.specs.declared.lexer.error.LexError.{LexError}

-- From the byte `at` on, a front of the text is cut into pieces that mean these items; it ends at
-- the byte `end`, before `rest`.
pub data Cut (mode : Mode) (number : ℕ) : ℕ → List ℕ → List Item → ℕ → List ℕ → Type 0 where
  stop : {at : ℕ} {text : List ℕ} → Cut mode number at text [] at text
  piece : {at end : ℕ} {text taken after rest : List ℕ} {rule : Rule} {more : List Item} →
      IsFirstFit text (rules_of mode) rule taken after →
      error_kind rule mode at taken after ≡ None →
      Cut mode number (at + width rule taken) after more end rest →
      Cut mode number at text (items number rule mode at taken after ++ more) end rest

-- From the byte `begin` on, the text of the source of this number reads as this forest: it has at
-- most 256 levels, and the whole text is cut into pieces that mean its items.
abbrev pub ReadsFrom : ℕ → Mode → ℕ → List ℕ → Forest → Type 0
ReadsFrom begin mode number text f =
    (depth f ≤ most_levels)
    × ((all : List Item) × Flat number f all × ((end : ℕ) × Cut mode number begin text all end []))

-- the whole text reads as this forest, from its byte 0 on
abbrev pub ReadsForest : Mode → ℕ → List ℕ → Forest → Type 0
ReadsForest mode number text f = ReadsFrom 0 mode number text f

-- why the text is rejected at `rest`, which begins at the byte `at`, with these groups open; and
-- the byte
pub data RejectsAt (mode : Mode) (levels : List (Delimiter × ℕ)) (at : ℕ)
    (rest : List ℕ) : LexErrorKind → ℕ → Type 0 where
  by_rule : {rule : Rule} {taken after : List ℕ} {why : LexErrorKind} →
      IsFirstFit rest (rules_of mode) rule taken after →
      error_kind rule mode at taken after ≡ Some why →
      RejectsAt mode levels at rest why at
  unclosed : {start : ℕ} (delimiter : Delimiter) (outer : List (Delimiter × ℕ)) → rest ≡ [] →
      levels ≡ outer ++ (delimiter, start) ∷ [] → RejectsAt mode levels at rest UnclosedGroup start
  unopened : (delimiter : Delimiter) (taken after : List ℕ) →
      IsFirstFit rest (rules_of mode) (Closing delimiter) taken after →
      (IsOpenBy levels delimiter → ⊥) →
      RejectsAt mode levels at rest UnexpectedClosing at
  too_deep : {rule : Rule} (taken after : List ℕ) →
      IsFirstFit rest (rules_of mode) rule taken after →
      error_kind rule mode at taken after ≡ None → opens_group rule taken ≡ true →
      length levels ≡ most_levels →
      RejectsAt mode levels at rest DeepGroup at

-- A front of the text is cut, with these groups open, and the rest is rejected there with this
-- error.
abbrev pub IsRefusedFrom : ℕ → Mode → ℕ → List ℕ → LexError → Type 0
IsRefusedFrom begin mode number text error = (error.source ≡ number)
    × ((all : List Item) × (end : ℕ) × (rest : List ℕ) × (levels : List (Delimiter × ℕ))
    × Cut mode number begin text all end rest × Opens number most_levels levels all
    × RejectsAt mode levels end rest error.kind error.at)

-- the whole text, read from its byte 0 on, is rejected with this error
abbrev pub IsRejected : Mode → ℕ → List ℕ → LexError → Type 0
IsRejected mode number text error = IsRefusedFrom 0 mode number text error
