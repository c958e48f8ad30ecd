-- A stream: its place, the span of its scope, and the leftover that it has noted.
use Rattle.std.specs.Prelude.{Option, None, refl}
use Rattle.std.specs.Coded.{Coded, code_by, coded×, coded_option}
use Rattle.std.specs.Option.{option_or}
use Rattle.tok_leaves.specs.declared.span.Span.{Span}
use Rattle.tok_leaves.specs.Spans.{closing_span}
use Rattle.tok_buffer.specs.Ahead.{Leftover, leftover}
use Rattle.tok_buffer.specs.Code.{coded_leftover, coded_place, coded_spans}
use Rattle.tok_buffer.specs.Entry.{Entered}
use Rattle.tok_buffer.specs.Place.{Place}
use Rattle.tok_buffer.specs.Messages.{stream_span}

-- a stream, as contracts see it
pub record State : Type 0 where
  pub place : Place
  pub scope_span : Span
  pub noted : Option Leftover

-- the span of a stream: its scope's at the end, else that of the next token or of a group's opening
abbrev pub state_span : State → Span
state_span s = stream_span s.place s.scope_span

-- a stream that has noted nothing
abbrev pub fresh : Place → Span → State
fresh p scope = record { place = p; scope_span = scope; noted = None }

-- a stream at another place
abbrev pub moved : Place → State → State
moved p s = record s { place = p }

-- records a leftover, unless one is recorded already
abbrev pub noting : Option Leftover → State → State
noting n s = record s { noted = option_or s.noted n }

-- what a stream reports when it ends: its recorded leftover, or else the one at its own place
abbrev pub handed : State → Option Leftover
handed s = option_or s.noted (leftover s.place)

-- a group's stream is closed into the stream around it
abbrev pub closed : State → State → State
closed content s = noting (handed content) s

-- a fork of a stream
abbrev pub forked : State → State
forked s = fresh s.place s.scope_span

-- a stream moves to the place of its fork, and takes over its leftover
abbrev pub advanced : State → State → State
advanced fork s = noting fork.noted (moved fork.place s)

-- the content of a group that is entered
abbrev pub content_of : Entered → State
content_of e = fresh e.content (closing_span e.span)

-- the stream after a group that is entered
abbrev pub after_group : Entered → State → State
after_group e s = moved e.after s

-- how a stream is stored
abbrev pub coded_state : Coded State
coded_state =
    let parts = coded× coded_place (coded× coded_spans (coded_option coded_leftover)) in
    code_by (Place × (Span × Option Leftover)) parts (λ s. (s.place, (s.scope_span, s.noted)))
    (λ c. record { place = c.0; scope_span = c.1.0; noted = c.1.1 }) (λ _. refl)
