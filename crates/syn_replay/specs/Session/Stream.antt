-- What a stream of the program stands for.
use Rattle.std.specs.Prelude.{◌≡◌, ℕ, Bool, true, false, List, map, Option, Some, None}
use Rattle.syn_parse.specs.Pauses.{paused_state}
use Rattle.syn_replay.specs.Commands.{StreamRead, read_answer}
use Rattle.syn_replay.specs.Meanings.{IsPlain, line_of}
use Rattle.syn_replay.specs.Session.State.{AllStreams, StreamKind, outermost, content_of, a_fork}
use Rattle.syn_replay.specs.Session.State.{moved_to, printed_position, stream_from}
use Rattle.syn_replay.specs.Session.State as spec
use Rattle.syn_replay.specs.declared.report.Line.{Line}
use Rattle.syn_replay.specs.declared.session.stream.Stream.{Stream}

-- the kind of a stream, by its fields
abbrev pub stream_kind : (is_fork : Bool) → Option ℕ → StreamKind
stream_kind is_fork (Some p) = content_of p
stream_kind true None = a_fork
stream_kind false None = outermost

-- the stream of a state that a value of the program is
abbrev pub stream_of : Stream → spec.Stream
stream_of s = stream_from (paused_state s.paused) (stream_kind s.is_fork s.parent) s.is_open

-- the state that a list of streams is
abbrev pub state_of_list : List Stream → AllStreams
state_of_list ss = map stream_of ss

-- a stream is of the same kind, and lists the same contents
abbrev pub KeepsContents : Stream → Stream → Type 0
KeepsContents before after =
    (after.parent ≡ before.parent) × (after.contents ≡ before.contents)
    × (after.is_fork ≡ before.is_fork)

-- the line of a read on an open stream, which is then at the place after it
abbrev pub IsReadLine : StreamRead → Line → spec.Stream → spec.Stream → Type 0
IsReadLine r l s t =
    let (answer, p) = read_answer r s.place s.scope_span in
    (line_of l ≡ record { answer = answer; position = printed_position p }) × IsPlain l.answer
    × (t ≡ moved_to p s)
