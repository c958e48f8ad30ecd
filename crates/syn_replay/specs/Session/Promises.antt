-- What the parts of a replay promise.
use Rattle.std.specs.Prelude.{◌≡◌, ℕ, true, false, List, [], ◌∷◌, None, Result, Ok, Err}
use Rattle.std.specs.List.{All}
use Rattle.std.specs.declared.alloc.AllocError.{AllocError}
use Rattle.syn_parse.specs.declared.fault.Fault.{Fault}
use Rattle.syn_parse.specs.declared.fault.Fault.TheVariants.{Refused, Memory}
use Rattle.syn_replay.specs.Commands as commands
use Rattle.syn_replay.specs.Commands.{command_of}
use Rattle.syn_replay.specs.Reports as reports
use Rattle.syn_replay.specs.Session.State.{AllStreams, Stream, stream_at}
use Rattle.syn_replay.specs.Session.Step.{Stepped, is_unknown, other_named, step, line}
use Rattle.tok_buffer.specs.Messages.{first_message}
use Rattle.syn_replay.specs.Meanings.{IsAnswer, IsPlain, answer_of, line_of}
use Rattle.syn_replay.specs.Meanings.{IsOneMessage}
use Rattle.syn_replay.specs.declared.command.Command.{Command}
use Rattle.syn_replay.specs.declared.report.Answer.{Answer}
use Rattle.syn_replay.specs.declared.report.Line.{Line}
use Rattle.syn_replay.specs.declared.report.Verdict.{Verdict}
use Rattle.syn_replay.specs.declared.report.Verdict.TheVariants as verdict

-- the answer and the state are those of a step
abbrev pub IsStepped : Answer → AllStreams → Stepped → Type 0
IsStepped a st s = IsAnswer a s.answer × (st ≡ s.state)

-- the line and the new state are those of a command
abbrev pub IsLine : Line → (new old : AllStreams) → commands.Command → Type 0
IsLine l new old c =
    (line_of l ≡ line c old) × IsPlain l.answer × (new ≡ (step c old).state)

-- the line of each command on stream n alone, if this stream is missing or has ended
abbrev pub IsMissed : Line → AllStreams → ℕ → Type 0
IsMissed l st n = (a : commands.Action) → other_named a ≡ None → IsLine l st st (commands.on n a)

-- all errors are of one message
abbrev pub ArePlain : List Line → Type 0
ArePlain ls = All (λ l. IsPlain l.answer) ls

module _ {R : Type 0} (receives : R → Command → Line → R → Type 0) where
  -- each line is that of its command, and is received in turn
  abbrev pub AreReceived : AllStreams → List Command → R → R → Type 0
  AreReceived st [] r last = last ≡ r
  AreReceived st (c ∷ cs) r last =
      (l : Line) × (next : R) × (line_of l ≡ line (command_of c) st) × IsPlain l.answer
      × receives r c l next × AreReceived (step (command_of c) st).state cs next last

-- a stream's fault as an answer: its error, or an allocation failure
abbrev pub Answers : Fault → Result Answer AllocError → Type 0
Answers (Refused e) (Ok a) =
    (answer_of a ≡ reports.refused (first_message e)) × (IsOneMessage e → IsPlain a)
Answers (Refused e) (Err m) = ⊥
Answers (Memory e) (Ok a) = ⊥
Answers (Memory e) (Err m) = Unit {0}

-- an error of a verdict is one message
abbrev pub IsPlainVerdict : Verdict → Type 0
IsPlainVerdict verdict.Accepted = Unit {0}
IsPlainVerdict (verdict.Refused e) = IsOneMessage e

-- stream n is this one
abbrev pub IsStream : AllStreams → ℕ → Stream → Type 0
IsStream st n s = (is_unknown st n ≡ false) × (stream_at st n ≡ s)

-- stream n is this one, and open
abbrev pub IsOpen : AllStreams → ℕ → Stream → Type 0
IsOpen st n s = (stream_at st n ≡ s) × (s.is_open ≡ true)
