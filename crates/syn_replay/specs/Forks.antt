-- Commands on a fork, and the same commands on its stream.
use Rattle.std.specs.Prelude.{◌≡◌, ℕ, ◌+◌, ◌==◌, ◌&&◌, ◌||◌, not, nat_le, Bool, true, false, if◌then◌else◌}
use Rattle.std.specs.Prelude.{List, Option, drop, length, map}
use Rattle.std.specs.List.{list_all, slice_get}
use Rattle.std.specs.Option.{option_map}
use Rattle.tok_core.specs.Forest.{Forest}
use Rattle.tok_buffer.specs.Order.{same_scope}
use Rattle.syn_replay.specs.Commands.{Action, Command, on, fork, advance, discard, close}
use Rattle.syn_replay.specs.Reports.{Answer, Line, done, entered, forked}
use Rattle.syn_replay.specs.Session.State.{Stream, AllStreams, content_of, first_state, is_open_at}
use Rattle.syn_replay.specs.Session.State.{kind_at, left_from, stream_at, recording}
use Rattle.syn_replay.specs.Session.Step.{Stepped, step}
use Rattle.syn_replay.specs.Session.Walk.{last_state, lines_from}

-- of a stream, and the number of the next stream that is made
module _ (stream made : ℕ) where
  -- the stream, or one that the commands make
  abbrev pub is_own : ℕ → Bool
  is_own n = (n == stream) || nat_le made n

  -- an action that neither ends the stream, nor discards, nor moves to a fork
  abbrev pub is_own_action : ℕ → Action → Bool
  is_own_action n (advance f) = false
  is_own_action n discard = false
  is_own_action n close = not (n == stream)
  is_own_action n a = true

  -- a command that names such a stream alone, and does such a thing
  abbrev pub is_own_command : Command → Bool
  is_own_command c = is_own_action c.stream c.action && is_own c.stream

  -- every command is such a command
  abbrev pub is_self_contained : List Command → Bool
  is_self_contained commands = list_all is_own_command commands

  -- on a fork of the stream: the fork has the number that the next stream had, and each stream that
  -- the commands make one more
  abbrev pub number_on_fork : ℕ → ℕ
  number_on_fork n = if n == stream then made else n + 1

  -- the action, with the number of each stream that it names shifted by the fork
  abbrev pub action_on_fork : Action → Action
  action_on_fork (advance f) = advance (number_on_fork f)
  action_on_fork a = a

  -- the command, with the numbers of its streams shifted by the fork
  abbrev pub command_on_fork : Command → Command
  command_on_fork c = on (number_on_fork c.stream) (action_on_fork c.action)

-- an answer in which the number of a new stream is one more
abbrev pub answer_on_fork : Answer → Answer
answer_on_fork (entered n d s) = entered (n + 1) d s
answer_on_fork (forked n) = forked (n + 1)
answer_on_fork a = a

-- the line, with the number in its answer shifted by the fork
abbrev pub line_on_fork : Line → Line
line_on_fork l = record l { answer = answer_on_fork l.answer }

-- commands that run on a fork of a stream, to which it then advances, and on the stream itself
module _ (st : AllStreams) (stream : ℕ) (commands : List Command) where
  -- the streams after the commands on the fork
  abbrev pub tried : AllStreams
  tried =
      last_state (step (on stream fork) st).state
      (map (command_on_fork stream (length st)) commands)

  -- the streams after the commands on the stream
  abbrev pub direct : AllStreams
  direct = last_state st commands

  -- the fork is still in the stream's scope
  abbrev pub InScope : Type 0
  InScope =
      same_scope (stream_at tried stream).place (stream_at tried (length st)).place ≡ true

  -- the stream advances to the fork
  abbrev pub advance_to_fork : Stepped
  advance_to_fork = step (on stream (advance (length st))) tried

  -- the stream, once the contents that the commands made from it and left open are closed
  abbrev pub closed_stream : Option Stream
  closed_stream =
      option_map (recording (left_from stream (length st) (drop (length st) direct)))
      (slice_get direct stream)

  -- the commands close all contents that they make from the stream
  abbrev pub ClosesAll : Type 0
  ClosesAll =
      (n : ℕ) → nat_le (length st) n ≡ true → kind_at direct n ≡ content_of stream
      → is_open_at direct n ≡ false

  -- The answers and the places are those of a run on the stream, but for the numbers of streams. If
  -- the fork is in the stream's scope, the stream ends where such a run ends, with its leftover.
  -- Contents that are left open are closed.
  pub record IsFollowed : Type 0 where
    pub lines :
        lines_from (step (on stream fork) st).state
        (map (command_on_fork stream (length st)) commands)
        ≡ map line_on_fork (lines_from st commands)
    pub done : InScope → advance_to_fork.answer ≡ done
    pub stream_after : InScope → slice_get advance_to_fork.state stream ≡ closed_stream
    pub if_closed : ClosesAll → closed_stream ≡ slice_get direct stream

-- self-contained commands on a fork, and then `advance`, equal the commands on the stream
abbrev pub ForksFollowCommands : Type 0
ForksFollowCommands =
    (f : Forest) (before commands : List Command) (stream : ℕ)
    → let st = last_state (first_state f) before in
    is_open_at st stream ≡ true → is_self_contained stream (length st) commands ≡ true
    → IsFollowed st stream commands
