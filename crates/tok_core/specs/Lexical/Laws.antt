-- The laws of reading: in any mode a text reads in one way at most, or is rejected in one way at
-- most, and never both; an error is explained in one way; a source begins at one place; and only
-- marks make groups invisible.
use Rattle.std.specs.Prelude.{◌≡◌, ℕ, List, true, false}
use Rattle.tok_core.specs.Erase.{erase}
use Rattle.tok_core.specs.Filled.{filled}
use Rattle.tok_core.specs.Forest.{Forest}
use Rattle.tok_core.specs.Lexical.Errors.{Explains}
use Rattle.tok_core.specs.Lexical.Reading.{ReadsForest, ReadsFrom, IsRejected}
use Rattle.tok_core.specs.declared.lexer.error.LexError.{LexError}
use Rattle.tok_leaves.specs.declared.span.Span.{Span}
use Rattle.tok_lexical.specs.Rules.{is_marked}
use Rattle.tok_lexical.specs.Sources.{BeginsAt}
use Rattle.tok_lexical.specs.declared.rule.Mode.{Mode}

-- a text reads as one forest at most
abbrev pub IsReadOnce : Type 0
IsReadOnce =
    (mode : Mode) → (number : ℕ) → (text : List ℕ) → (one other : Forest) →
    ReadsForest mode number text one → ReadsForest mode number text other → one ≡ other

-- a text is rejected with one error at most
abbrev pub IsRefusedOnce : Type 0
IsRefusedOnce =
    (mode : Mode) → (number : ℕ) → (text : List ℕ) → (one other : LexError) →
    IsRejected mode number text one → IsRejected mode number text other → one ≡ other

-- a text that reads as a forest is not rejected
abbrev pub IsNeverBoth : Type 0
IsNeverBoth =
    (mode : Mode) → (number : ℕ) → (text : List ℕ) → (f : Forest) → (error : LexError) →
    ReadsForest mode number text f → IsRejected mode number text error → ⊥

-- an error is explained to readers of a text in one way at most
abbrev pub IsExplainedOnce : Type 0
IsExplainedOnce =
    (text : List ℕ) → (error : LexError) → (one other : Span × List ℕ) →
    Explains text error one → Explains text error other → one ≡ other

-- the pieces of a source begin at one place
abbrev pub IsBegunOnce : Type 0
IsBegunOnce =
    (text : List ℕ) → (one other : List ℕ) → BeginsAt text one → BeginsAt text other → one ≡ other

-- no group of the forest is invisible: erasing those changes nothing, and none is empty
abbrev pub IsAllVisible : Forest → Type 0
IsAllVisible f = (filled f ≡ true) × (erase f ≡ f)

-- only a marked text has invisible groups
abbrev pub IsReadVisibly : Type 0
IsReadVisibly =
    (begin : ℕ) → (mode : Mode) → (number : ℕ) → (text : List ℕ) → (f : Forest) →
    is_marked mode ≡ false → ReadsFrom begin mode number text f → IsAllVisible f
