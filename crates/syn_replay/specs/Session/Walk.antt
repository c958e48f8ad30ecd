-- A list of commands in order, and the verdict.
use Rattle.std.specs.Prelude.{List, [], ◌∷◌, Option, Some, None}
use Rattle.tok_core.specs.Forest.{Forest}
use Rattle.tok_buffer.specs.Ahead.{Leftover}
use Rattle.syn_parse.specs.ErrorWords.{leftover_message}
use Rattle.syn_replay.specs.Commands.{Command}
use Rattle.syn_replay.specs.Reports.{Line, Verdict, accepted, left_over, Report}
use Rattle.syn_replay.specs.Session.State.{AllStreams, first_state}
use Rattle.syn_replay.specs.Session.State.{reported}
use Rattle.syn_replay.specs.Session.Step.{step, line}

-- the lines of commands in order, from this state
abbrev pub lines_from : AllStreams → List Command → List Line
lines_from st [] = []
lines_from st (c ∷ cs) = line c st ∷ lines_from (step c st).state cs

-- the state after commands in order
abbrev pub last_state : AllStreams → List Command → AllStreams
last_state st [] = st
last_state st (c ∷ cs) = last_state (step c st).state cs

-- the leftover that the outermost stream reports decides
abbrev pub verdict_on : Option Leftover → Verdict
verdict_on left = elim left [ None ↦ accepted | Some l ↦ left_over (leftover_message l) ]

-- the verdict in this state: by the leftover that stream 0 reports
abbrev pub verdict : AllStreams → Verdict
verdict st = verdict_on (reported st 0)

-- the report on a forest and commands: a line for each command, and the verdict
abbrev pub walk : Forest → List Command → Report
walk f cs =
    record {
      lines = lines_from (first_state f) cs;
      verdict = verdict (last_state (first_state f) cs);
    }
