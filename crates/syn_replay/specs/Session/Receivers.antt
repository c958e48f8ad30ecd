-- What becomes of a line: it is kept, written, or compared with that of another replay.
use Rattle.std.specs.Prelude.{◌≡◌, ◌↔◌, ℕ, List, [], ◌∷◌, ◌++◌, true}
use Rattle.std.specs.Fmt.{HasWritten, IsPlainFormatter}
use Rattle.std.specs.Global.{Vec}
use Rattle.std.specs.declared.fmt.Formatter.{Formatter}
use Rattle.syn_replay.specs.Agree.{AnswersAgree}
use Rattle.syn_replay.specs.Commands.{command_of}
use Rattle.syn_replay.specs.Meanings.{line_of}
use Rattle.syn_replay.specs.ReportText.{as_line, line_text}
use Rattle.syn_replay.specs.Session.Promises.{IsLine}
use Rattle.syn_replay.specs.Session.Streams.{state_of}
use Rattle.syn_replay.specs.declared.agreement.written.Pair.{Pair}
use Rattle.syn_replay.specs.declared.command.Command.{Command}
use Rattle.syn_replay.specs.declared.report.Line.{Line}

-- the line is kept, after those before
abbrev pub KeepsLine : Vec Line → Command → Line → Vec Line → Type 0
KeepsLine before c l after = after.items ≡ before.items ++ l ∷ []

module _ {W : Type 0} (took : W → List ℕ → W → Type 0) where
  -- the line and its line feed are written
  abbrev pub WritesLine : Formatter W → Command → Line → Formatter W → Type 0
  WritesLine before c l after =
      IsPlainFormatter before → HasWritten took before (as_line (line_text (line_of l))) after

  -- The other replay goes on by the command, and both lines are written. All lines agree if and
  -- only if the lines before agree and the answers of these two agree.
  pub record Compares (before : Pair W) (c : Command) (ours : Line) (after : Pair W) : Type 0 where
    pub theirs : Line
    pub is_line : IsLine theirs (state_of after.other) (state_of before.other) (command_of c)
    pub left : WritesLine before.left c ours after.left
    pub right : WritesLine before.right c theirs after.right
    pub agree : (after.agree ≡ true)
        ↔ ((before.agree ≡ true) × AnswersAgree (line_of ours).answer (line_of theirs).answer)
