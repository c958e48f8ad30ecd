-- What the streams of the program stand for.
use Rattle.std.specs.Prelude.{ℕ, vec_capacity}
use Rattle.syn_replay.specs.Session.State.{AllStreams}
use Rattle.syn_replay.specs.Session.Stream.{state_of_list}
use Rattle.syn_replay.specs.declared.session.streams.Streams.{Streams}

-- the state that the streams of a replay are
abbrev pub state_of : Streams → AllStreams
state_of s = state_of_list s.list.items

-- the streams for which there is room in the list
abbrev pub room_of : Streams → ℕ
room_of s = vec_capacity s.list
