-- An error as the list of its messages.
use Rattle.std.specs.Prelude.{◌≡◌, ℕ, List, [], ◌∷◌, ◌++◌, map, Option, MatchOption, Result, if◌then◌else◌, codes}
use Rattle.std.specs.Prelude.{IfOk, IfSome, MatchResult, Some}
use Rattle.std.specs.Iterator.{Drains, YieldsThen}
use Rattle.std.specs.declared.alloc.AllocError.{AllocError}
use Rattle.std.specs.Global.{Box}
use Rattle.std.specs.List.{flat_map}
use Rattle.std.specs.Coded.{Coded, code_by, coded×, coded_ℕ, coded_list}
use Rattle.std.proofs.Common.{ap, ◌∙◌}
use Rattle.tok_core.specs.Code.{SpanCode, span_code, span_of, span_back, coded_span}
use Rattle.tok_leaves.specs.declared.span.Span.{Span}
use Rattle.tok_leaves.specs.Spans.{call_site, covering}
use Rattle.tok_buffer.specs.declared.error.Message.{Message}
use Rattle.tok_buffer.specs.Place.{Place, is_at_end}
use Rattle.tok_buffer.specs.Spans.{start_span}

-- a message: the spans of the first and the last token that it speaks of, and its text
abbrev pub message : (start end : Span) → List ℕ → Message
message start end text = record { start = start; end = end; text = text }

-- the messages in their boxes
abbrev pub unboxed : List (Box Message) → List Message
unboxed = map (λ (m : Box Message). m.value)

-- an error of one message
abbrev pub error_of : (start end : Span) → List ℕ → List Message
error_of start end text = message start end text ∷ []

-- a message whose two spans are one
abbrev pub message_at : Span → List ℕ → Message
message_at span text = message span span text

-- an error of this message alone
abbrev pub one_message : Message → List Message
one_message m = m ∷ []

-- the span of a stream: its scope's at the end, else that of the next token or of its opening
abbrev pub stream_span : Place → Span → Span
stream_span p scope = if is_at_end p then scope else start_span p

-- the message at a stream: at the end its text gets a front that says so
abbrev pub at_stream : Place → Span → List ℕ → Message
at_stream p scope words =
    message_at (stream_span p scope)
    (if is_at_end p then codes "unexpected end of input, " ++ words else words)

-- the message at a stream with this text alone
abbrev pub plain : Place → Span → List ℕ → Message
plain p scope words = message_at (stream_span p scope) words

-- the two spans of each message
abbrev pub spans_of : List Message → List (Span × Span)
spans_of e = map (λ m. (m.start, m.end)) e

-- one message over these two spans, with this text if its type states the text
abbrev pub HasMessage : Span × Span → Option (List ℕ) → List Message → Type 0
HasMessage spans written e =
    (spans_of e ≡ spans ∷ []) × IfSome written (λ text. e ≡ error_of spans.0 spans.1 text)

-- from the start of a message's first span to the end of its last
abbrev pub message_span : Message → Span
message_span m = covering m.start m.end

-- the first message of an error, which always has one
abbrev pub first_message : List Message → Message
first_message [] = message_at call_site []
first_message (m ∷ ms) = m

-- the span of an error's first message, at which the error is shown
abbrev pub first_message_span : List Message → Span
first_message_span e = message_span (first_message e)

-- the text of an error's first message
abbrev pub first_text : List Message → List ℕ
first_text e = (first_message e).text

-- the errors of one message each
abbrev pub each_message : List Message → List (List Message)
each_message e = map (λ m. m ∷ []) e

-- an error with the messages of others after its own
abbrev pub AddsMessages : List Message → List (List Message) → List Message → Type 0
AddsMessages old others new = new ≡ old ++ flat_map (λ e. e) others

-- The messages of each error that an iterator gives are added in turn: of all of them, or of some
-- first ones, after which it gave one more.
abbrev pub ExtendsWithErrors : {U T : Type 0} → (U → T → Type 0) →
    (T → Option (List Message) → T → Type 0) → U → List Message → List Message →
    Result (Unit {0}) AllocError → Type 0
ExtendsWithErrors {U} {T} becomes gives errors old new result =
    (iterator : T) × (added : List (List Message)) × becomes errors iterator
    × AddsMessages old added new
    × MatchResult result (λ _. Drains gives iterator added)
    (λ _. (missing : List Message) × (after : T)
    × YieldsThen gives iterator added (Some missing) after)

-- a list of errors yields its first, unless the allocation of a copy fails
abbrev pub GivesFirst : List (List Message) → Option (Result (List Message) AllocError) →
    List (List Message) → Type 0
GivesFirst errors answer left =
    MatchOption answer ((errors ≡ []) × (left ≡ []))
    (λ made. (first : List Message) × ((errors ≡ first ∷ left) × IfOk made (λ e. e ≡ first)))

-- the code of a message: its spans, and its text
abbrev pub MessageCode : Type 0
MessageCode = SpanCode × (SpanCode × List ℕ)

-- a message as its code
abbrev pub message_code : Message → MessageCode
message_code m = (span_code m.start, (span_code m.end, m.text))

-- the message that a code stands for
abbrev pub message_of : MessageCode → Message
message_of c = message (span_of c.0) (span_of c.1.0) c.1.1

-- a message is had back from its code
pub message-back : (m : Message) → message_of (message_code m) ≡ m
message-back m =
    ap (λ s. message s (span_of (span_code m.end)) m.text) (span_back m.start)
    ∙ ap (λ s. message m.start s m.text) (span_back m.end)

-- an error, as a model holds it
abbrev pub messages_code : Coded (List Message)
messages_code =
    coded_list
    (code_by MessageCode
    (coded× coded_span
    (coded× coded_span (coded_list coded_ℕ))) message_code message_of message-back)

-- several errors, as a model holds them
abbrev pub errors_code : Coded (List (List Message))
errors_code = coded_list messages_code
