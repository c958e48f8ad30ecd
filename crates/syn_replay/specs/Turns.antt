-- The two list parsers, turn by turn.
use Rattle.std.specs.Prelude.{◌≡◌, ◌≤◌, ℕ, zero, suc, ◌+◌, ◌&&◌, nat_lt, Bool, true, false, if◌then◌else◌}
use Rattle.std.specs.Prelude.{List, [], ◌∷◌, ◌++◌, length, Option, Some, None, codes}
use Rattle.tok_leaves.specs.declared.span.Span.{Span}
use Rattle.tok_core.specs.Forest.{Tree, leaf}
use Rattle.tok_leaves.specs.Leaves.{leaf_span, leaf_text}
use Rattle.tok_buffer.specs.Ahead.{marked_ahead}
use Rattle.tok_buffer.specs.Order.{same_scope}
use Rattle.tok_buffer.specs.Place.{Place, empty_place, at, is_at_end}
use Rattle.tok_buffer.specs.Reads as reads
use Rattle.tok_buffer.specs.Messages.{plain}
use Rattle.tok_buffer.specs.declared.error.Message.{Message}
use Rattle.syn_parse.specs.State.{fresh}
use Rattle.syn_parse.specs.ErrorWords.{punctuation_message}
use Rattle.syn_replay.specs.Kinds.{Kind, read, kind_missing}
use Rattle.syn_replay.specs.Reports.{Piece}

-- the leaves among the trees read
abbrev pub pieces_of : List Tree → List Piece
pieces_of [] = []
pieces_of (leaf l ∷ ts) = record { text = leaf_text l; span = leaf_span l } ∷ pieces_of ts
pieces_of (t ∷ ts) = pieces_of ts

-- a list read with the place after it, or the error and the place at which it came
pub data ListOutcome : Type 0 where
  read_all : List (List Piece) → Place → ListOutcome
  refused_at : Message → Place → ListOutcome

-- an outcome with these parts before its own
abbrev pub with_parts : List (List Piece) → ListOutcome → ListOutcome
with_parts parts (read_all more p) = read_all (parts ++ more) p
with_parts parts (refused_at r p) = refused_at r p

-- what comes after a read, or the outcome if nothing is read
abbrev pub after_read : ListOutcome → (List Piece → Place → ListOutcome) → Option (List Tree
    × Place) → ListOutcome
after_read none some None = none
after_read none some (Some r) = some (pieces_of r.0) r.1

-- the next turn begins later in the same scope, or newly at the empty place
abbrev pub is_later : Place → Place → Bool
is_later (at n s c l ls) (at m t d k ks) = same_scope (at n s c l ls) (at m t d k ks) && nat_lt c d
is_later (at n s c l ls) empty_place = true
is_later empty_place q = false

-- the error of a turn that made no progress
abbrev pub no_progress_at : Place → Span → Message
no_progress_at p scope = plain p scope (codes "parser made no progress")

-- when a list ends: at the end of the scope, and the last separator may be missing; or with a
-- value that no separator follows
pub data ListRule : Type 0 where
  terminated : ListRule
  separated : ListRule

-- a list that is over here, before a value or after one
abbrev pub is_over : ListRule → Place → Bool
is_over terminated p = is_at_end p
is_over separated p = false

module _ (kind : Kind) (separator : List ℕ) (scope : Span) where
  -- the error at a missing separator
  abbrev pub separator_message : Place → Message
  separator_message p = punctuation_message separator (fresh p scope)

  -- after a separator comes another turn, unless nothing was passed
  abbrev pub next_turn : Place → Place → (Place → ListOutcome) → ListOutcome
  next_turn before now go =
      if is_later before now then go now else refused_at (no_progress_at now scope) now

  -- a separator, and then another turn
  abbrev pub after_value : Place → List Piece → ListOutcome → (Place → ListOutcome) → Place
      → ListOutcome
  after_value before v bare go p =
      after_read bare (λ s q. with_parts (v ∷ (s ∷ [])) (next_turn before q go))
      (reads.read_punctuation separator p)

  -- the outcome at a value that no separator follows
  abbrev pub without_separator : ListRule → List Piece → Place → ListOutcome
  without_separator terminated v p = refused_at (separator_message p) p
  without_separator separated v p = read_all (v ∷ []) p

  -- the turns of a list, as many at most as are allowed
  abbrev pub turns : ListRule → ℕ → Place → ListOutcome
  turns rule zero p = refused_at (no_progress_at p scope) p
  turns rule (suc n) p =
      if is_over rule p then read_all [] p
      else after_read (refused_at (kind_missing kind (fresh p scope)) p)
      (λ v q. if is_over rule q then read_all (v ∷ []) q
      else after_value p v (without_separator rule v q) (turns rule n) q)
      (read kind p)

-- a turn that is followed by another reads a tree of the list ahead, so one more than are ahead is
-- enough
abbrev pub turns_left : Place → ℕ
turns_left p = length (marked_ahead p) + 1

-- more turns than are allowed change nothing
abbrev pub MoreTurnsChangeNothing : Type 0
MoreTurnsChangeNothing =
    (kind : Kind) (separator : List ℕ) (scope : Span) (rule : ListRule) (n : ℕ) (p : Place)
    → turns_left p ≤ n
    → turns kind separator scope rule n p ≡ turns kind separator scope rule (turns_left p) p
