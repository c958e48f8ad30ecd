-- What a report holds: an answer and a position a command, and a verdict.
use Rattle.std.specs.Prelude.{ℕ, Bool, List}
use Rattle.tok_lexical.specs.declared.delimiter.Delimiter.{Delimiter}
use Rattle.tok_leaves.specs.declared.span.Span.{Span}
use Rattle.tok_core.specs.Forest.{Forest}
use Rattle.tok_buffer.specs.declared.error.Message.{Message}
use Rattle.syn_replay.specs.declared.report.Misuse.{Misuse}

-- one leaf read: its text and span
pub record Piece : Type 0 where
  pub text : List ℕ
  pub span : Span

-- the answer to a command
pub data Answer : Type 0 where
  truth : Bool → Answer
  read : List Piece → Answer
  absent : Answer
  entered : ℕ → Delimiter → Span → Answer
  forked : ℕ → Answer
  list : List (List Piece) → Answer
  found : ℕ → Answer
  done : Answer
  at : Span → Answer
  trees : Forest → Answer
  refused : Message → Answer
  misused : Misuse → Answer

-- the position of a stream: a count, the empty place, or none if the stream does not exist
pub data Position : Type 0 where
  stands_at : ℕ → Position
  at_empty : Position
  missing : Position

-- an answer, and the position of the command's stream after it
pub record Line : Type 0 where
  pub answer : Answer
  pub position : Position

-- whether everything was read, or the error of the first leftover
pub data Verdict : Type 0 where
  accepted : Verdict
  left_over : Message → Verdict

-- a line for each command, and the verdict
pub record Report : Type 0 where
  pub lines : List Line
  pub verdict : Verdict
