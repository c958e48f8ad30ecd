-- One command on the streams.
use Rattle.std.specs.Prelude.{ℕ, ◌&&◌, ◌||◌, not, Bool, true, false, if◌then◌else◌, List, [], ◌∷◌}
use Rattle.std.specs.Prelude.{◌++◌, length, nat_le, Option, Some, None}
use Rattle.tok_leaves.specs.declared.span.Span.{Span}
use Rattle.tok_leaves.specs.Spans.{closing_span}
use Rattle.tok_buffer.specs.Entry.{Entered}
use Rattle.tok_buffer.specs.Order.{same_scope}
use Rattle.tok_buffer.specs.Place.{Place}
use Rattle.tok_buffer.specs.Messages.{at_stream}
use Rattle.syn_replay.specs.Commands.{Action, Command, read, enter, fork, advance, discard, close}
use Rattle.syn_replay.specs.Commands.{read_answer}
use Rattle.syn_replay.specs.Reports.{Answer, entered, forked, done, refused, misused, Position, missing}
use Rattle.syn_replay.specs.Reports.{Line}
use Rattle.syn_replay.specs.declared.report.Misuse.{Misuse}
use Rattle.syn_replay.specs.declared.report.Misuse.TheVariants.{NoStream, Spent, NoFork, NoContent}
use Rattle.syn_replay.specs.declared.report.Misuse.TheVariants.{OutOfScope}
use Rattle.syn_replay.specs.Session.Entering.{entered_by, entering_words}
use Rattle.syn_replay.specs.Session.State.{Stream, StreamKind, content_of, a_fork, AllStreams}
use Rattle.syn_replay.specs.Session.State.{with_stream, moved_to, is_or_inside, content_closed, moved_to_fork}
use Rattle.syn_replay.specs.Session.State.{is_open_at, kind_at, printed_position, stream_at}
use Rattle.syn_replay.specs.Session.State.{stream_ended}

-- an answer with the streams after it
pub record Stepped : Type 0 where
  pub answer : Answer
  pub state : AllStreams

-- an answer, and the state unchanged
abbrev pub unmoved : AllStreams → Answer → Stepped
unmoved st a = record { answer = a; state = st }

-- an answer, and a stream at the place that comes with it
abbrev pub moves : AllStreams → ℕ → Answer × Place → Stepped
moves st k x = record { answer = x.0; state = with_stream st k (moved_to x.1) }

-- an open stream at this place, with no leftover
abbrev pub new_stream : Place → Span → StreamKind → Stream
new_stream p scope kind =
    record { place = p; scope_span = scope; kind = kind; is_open = true; recorded = None }

-- a group is entered as a new stream, or the answer is an error
abbrev pub into_group : AllStreams → ℕ → Stream → List ℕ → Option Entered → Stepped
into_group st k s words None = unmoved st (refused (at_stream s.place s.scope_span words))
into_group st k s words (Some e) = record {
  answer = entered (length st) e.delimiter e.span;
  state = with_stream st k (moved_to e.after)
      ++ new_stream e.content (closing_span e.span) (content_of k) ∷ [];
}

-- the answer to an action on an open stream, and the state after it
abbrev pub on_stream : Action → AllStreams → ℕ → Stream → Stepped
on_stream (read r) st k s = moves st k (read_answer r s.place s.scope_span)
on_stream (enter wanted) st k s =
    into_group st k s (entering_words wanted) (entered_by wanted s.place)
on_stream fork st k s =
    record {
      answer = forked (length st);
      state = st ++ new_stream s.place s.scope_span a_fork ∷ [];
    }
on_stream (advance f) st k s =
    if same_scope s.place (stream_at st f).place && not (is_or_inside st f k)
    then record { answer = done; state = moved_to_fork k f st }
    else unmoved st (misused OutOfScope)
on_stream discard st k s = record { answer = done; state = stream_ended k st }
on_stream close st k s = record { answer = done; state = content_closed k st }

-- the stream that is named beside the command's own, if there is one
abbrev pub other_named : Action → Option ℕ
other_named (advance f) = Some f
other_named a = None

-- a stream, and another if there is one
abbrev pub with_other : ℕ → Option ℕ → List ℕ
with_other n None = n ∷ []
with_other n (Some m) = n ∷ (m ∷ [])

-- the streams that a command names
abbrev pub named_by : Command → List ℕ
named_by c = with_other c.stream (other_named c.action)

-- stream k does not exist
abbrev pub is_unknown : AllStreams → ℕ → Bool
is_unknown st k = nat_le (length st) k

-- stream k is not open
abbrev pub has_ended : AllStreams → ℕ → Bool
has_ended st k = not (is_open_at st k)

-- how a command on this stream alone is misused, if it is missing or has ended
abbrev pub stream_misuse : AllStreams → ℕ → Option Misuse
stream_misuse st k =
    if is_unknown st k then Some NoStream else if has_ended st k then Some Spent else None

-- the position of stream k, if there is one
abbrev pub stream_position : AllStreams → ℕ → Position
stream_position st k =
    if is_unknown st k then missing else printed_position (stream_at st k).place

-- the test is true for one of these numbers
abbrev pub any_of : (ℕ → Bool) → List ℕ → Bool
any_of test [] = false
any_of test (n ∷ ns) = test n || any_of test ns

-- the stream is a fork
abbrev pub is_fork : StreamKind → Bool
is_fork a_fork = true
is_fork k = false

-- the stream is that of a group
abbrev pub is_content : StreamKind → Bool
is_content (content_of p) = true
is_content k = false

-- the kinds of streams that a command needs: how it is misused if they are others
abbrev pub kind_misuse : Action → AllStreams → ℕ → Option Misuse
kind_misuse (advance f) st k = if is_fork (kind_at st f) then None else Some NoFork
kind_misuse discard st k = if is_fork (kind_at st k) then None else Some NoFork
kind_misuse close st k = if is_content (kind_at st k) then None else Some NoContent
kind_misuse a st k = None

-- the first misuse of the streams that a command names
abbrev pub misuse : Command → AllStreams → Option Misuse
misuse c st =
    if any_of (is_unknown st) (named_by c) then Some NoStream
    else if any_of (has_ended st) (named_by c) then Some Spent
    else kind_misuse c.action st c.stream

-- the answer to a command, and the state after it; a misused command changes nothing
abbrev pub step : Command → AllStreams → Stepped
step c st =
    elim (misuse c st) [
      | Some m ↦ unmoved st (misused m)
      | None ↦ on_stream c.action st c.stream (stream_at st c.stream)
    ]

-- the position of a command's stream after it, or none if a stream that it names is missing
abbrev pub position_in : Command → AllStreams → AllStreams → Position
position_in c st after =
    if any_of (is_unknown st) (named_by c) then missing
    else stream_position after c.stream

-- the line of a command, from the streams before it
abbrev pub line : Command → AllStreams → Line
line c st = record { answer = (step c st).answer; position = position_in c st (step c st).state }
