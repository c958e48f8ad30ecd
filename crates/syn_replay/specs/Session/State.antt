-- The streams of a replay.
use Rattle.std.specs.Prelude.{ℕ, suc, ◌+◌, ◌==◌, ◌&&◌, ◌||◌, Bool, true, false, if◌then◌else◌}
use Rattle.std.specs.Prelude.{List, [], ◌∷◌, length, get_or, map, set, Option, None}
use Rattle.std.specs.Option.{option_or}
use Rattle.tok_leaves.specs.Spans.{call_site}
use Rattle.tok_leaves.specs.declared.span.Span.{Span}
use Rattle.tok_core.specs.Forest.{Forest}
use Rattle.tok_buffer.specs.Ahead.{Leftover, leftover}
use Rattle.tok_buffer.specs.Place.{Place, at, empty_place, start}
use Rattle.syn_parse.specs.State as parse
use Rattle.syn_replay.specs.Reports.{Position, stands_at, at_empty}

-- the whole forest's stream, or a group's, with the number of the stream from which the group was
-- entered, or a fork
pub data StreamKind : Type 0 where
  outermost : StreamKind
  content_of : ℕ → StreamKind
  a_fork : StreamKind

-- a stream is open or ended, and records at most one leftover, reported by the streams inside it
pub record Stream : Type 0 where
  pub place : Place
  pub scope_span : Span
  pub kind : StreamKind
  pub is_open : Bool
  pub recorded : Option Leftover

-- a stream in this state of the layer below, of this kind, open or ended
abbrev pub stream_from : parse.State → StreamKind → Bool → Stream
stream_from t kind is_open =
    record {
      place = t.place;
      scope_span = t.scope_span;
      kind = kind;
      is_open = is_open;
      recorded = t.noted;
    }

-- a stream in another state of the layer below
abbrev pub moved_as : parse.State → Stream → Stream
moved_as t s = stream_from t s.kind s.is_open

-- a stream, as the layer below sees it
abbrev pub parse_state : Stream → parse.State
parse_state s = record { place = s.place; scope_span = s.scope_span; noted = s.recorded }

-- the streams by their numbers, from 0
abbrev pub AllStreams : Type 0
AllStreams = List Stream

-- the state before the first command: stream 0 at the start of the forest
abbrev pub first_state : Forest → AllStreams
first_state f =
    record {
      place = start 0 f;
      scope_span = call_site;
      kind = outermost;
      is_open = true;
      recorded = None;
    } ∷ []

-- a stream that does not exist counts as one that has ended
abbrev pub no_stream : Stream
no_stream =
    record {
      place = empty_place;
      scope_span = call_site;
      kind = outermost;
      is_open = false;
      recorded = None;
    }

-- stream k
abbrev pub stream_at : AllStreams → ℕ → Stream
stream_at st k = get_or st k no_stream

-- whether a stream is there and open
abbrev pub is_open_at : AllStreams → ℕ → Bool
is_open_at st k = (stream_at st k).is_open

-- the kinds of the streams
abbrev pub kinds : AllStreams → List StreamKind
kinds st = map (λ s. s.kind) st

-- the streams with stream k changed, if it exists
abbrev pub with_stream : AllStreams → ℕ → (Stream → Stream) → AllStreams
with_stream st k f = set st k (f (stream_at st k))

-- a stream at another place
abbrev pub moved_to : Place → Stream → Stream
moved_to p s = record s { place = p }

-- a stream that has ended
abbrev pub spent : Stream → Stream
spent s = record s { is_open = false }

-- records a leftover, unless one is recorded already
abbrev pub recording : Option Leftover → Stream → Stream
recording n s = record s { recorded = option_or s.recorded n }

-- the kind of stream k; a stream that does not exist counts as outermost
abbrev pub kind_at : AllStreams → ℕ → StreamKind
kind_at st k = (stream_at st k).kind

-- whether a stream was entered from one whose number passes the test
abbrev pub is_entered_from : (ℕ → Bool) → StreamKind → Bool
is_entered_from test (content_of p) = test p
is_entered_from test kind = false

-- the stream was entered from this parent
abbrev pub is_content_of : ℕ → StreamKind → Bool
is_content_of parent kind = is_entered_from (λ p. p == parent) kind

-- a stream ends if the test is true, and else stays unchanged
abbrev pub spent_if : Bool → Stream → Stream
spent_if b s = if b then spent s else s

-- The streams from this number on, of which some end: those that are open and that pass the test,
-- or were entered from one that ends.
abbrev pub ended_from : (ends : ℕ → Bool) → (next : ℕ) → AllStreams → AllStreams
ended_from ends next [] = []
ended_from ends next (s ∷ later) =
    let e = s.is_open && (ends next || is_entered_from ends s.kind) in
    spent_if e s ∷ ended_from (λ n. if n == next then e else ends n) (next + 1) later

-- a stream ends, and with it the open streams inside
abbrev pub stream_ended : ℕ → AllStreams → AllStreams
stream_ended k st = ended_from (λ n. n == k) 0 st

-- the open streams inside a stream end
abbrev pub closed_inside : ℕ → AllStreams → AllStreams
closed_inside k st = ended_from (λ n. is_content_of k (kind_at st n)) 0 st

-- What is left in the open contents of a stream, among the streams from this number on: the first,
-- by number, that one of them reports. A stream reports its recorded leftover, or what is left
-- inside it, or the leftover at its place.
abbrev pub left_from : (stream next : ℕ) → AllStreams → Option Leftover
left_from stream next [] = None
left_from stream next (s ∷ later) =
    option_or
    (if s.is_open && is_content_of stream s.kind
    then option_or (option_or s.recorded (left_from next (next + 1) later)) (leftover s.place)
    else None)
    (left_from stream (next + 1) later)

-- what is left inside a stream
abbrev pub left_inside : AllStreams → ℕ → Option Leftover
left_inside st k = left_from k 0 st

-- stream k, which records what is left inside it
abbrev pub gathered : AllStreams → ℕ → Stream
gathered st k = recording (left_inside st k) (stream_at st k)

-- the leftover that stream k reports when it ends
abbrev pub reported : AllStreams → ℕ → Option Leftover
reported st k = option_or (gathered st k).recorded (leftover (stream_at st k).place)

-- a leftover is recorded on the parent of a group's stream
abbrev pub recording_on_parent : StreamKind → Option Leftover → AllStreams → AllStreams
recording_on_parent outermost n st = st
recording_on_parent (content_of p) n st = with_stream st p (recording n)
recording_on_parent a_fork n st = st

-- a group's stream records on its parent the leftover that it reports, and ends
abbrev pub content_closed : ℕ → AllStreams → AllStreams
content_closed k st =
    stream_ended k (recording_on_parent (kind_at st k) (reported st k) st)

-- a stream goes to the place of a fork, and takes over the leftover that the fork recorded
abbrev pub moved_on : (fork : Stream) → Stream → Stream
moved_on fork s = moved_as (parse.advanced (parse_state fork) (parse_state s)) s

-- a stream moves to the place of a fork with all that the fork left, and the fork ends
abbrev pub moved_to_fork : (stream fork : ℕ) → AllStreams → AllStreams
moved_to_fork stream fork st =
    stream_ended fork (with_stream st stream (moved_on (gathered st fork)))

-- a stream of this kind was entered inside another, at most at this depth
abbrev pub is_entered_within : (depth : ℕ) → AllStreams → (outer : ℕ) → StreamKind → Bool
is_entered_within (suc depth) st outer (content_of p) =
    p == outer || is_entered_within depth st outer (kind_at st p)
is_entered_within depth st outer kind = false

-- a stream was entered inside another, at any depth
abbrev pub is_inside : AllStreams → (outer inner : ℕ) → Bool
is_inside st outer inner = is_entered_within (length st) st outer (kind_at st inner)

-- stream n is the outer one, or inside it
abbrev pub is_or_inside : AllStreams → (outer n : ℕ) → Bool
is_or_inside st outer n = n == outer || is_inside st outer n

-- the position that a place is printed as
abbrev pub printed_position : Place → Position
printed_position empty_place = at_empty
printed_position (at n s c l ls) = stands_at c
