-- How a place and a leftover are stored, for a model that holds them.
use Rattle.std.specs.Prelude.{◌≡◌, ℕ, List, Option, Some, None, refl}
use Rattle.std.proofs.Common.{ap, ◌∙◌}
use Rattle.std.specs.Coded.{Coded, code_by, coded×, coded_ℕ, coded_list, coded_option}
use Rattle.tok_core.specs.Code.{SpanCode, span_code, span_of, span_back, coded_span, delimiter_code}
use Rattle.tok_core.specs.Code.{delimiter_of, delimiter_back, forest_code}
use Rattle.tok_core.specs.Forest.{Forest}
use Rattle.tok_leaves.specs.declared.span.Span.{Span}
use Rattle.tok_buffer.specs.Ahead.{Leftover}
use Rattle.tok_buffer.specs.Place.{Enclosing, whole, in_group, Frame, frame, Place, empty_place, at}

-- spans, as a model holds them
abbrev pub coded_spans : Coded Span
coded_spans = code_by SpanCode coded_span span_code span_of span_back

-- an enclosure: `None` for the whole forest, else a group's delimiter as a number, and its span
abbrev pub EnclosingCode : Type 0
EnclosingCode = Option (ℕ × SpanCode)

-- the code of an enclosure
abbrev pub enclosing_code : Enclosing → EnclosingCode
enclosing_code whole = None
enclosing_code (in_group d span) = Some (delimiter_code d, span_code span)

-- an enclosure, from its code
abbrev pub enclosing_of : EnclosingCode → Enclosing
enclosing_of None = whole
enclosing_of (Some c) = in_group (delimiter_of c.0) (span_of c.1)

-- an enclosure is read back from its code
pub enclosing-back : (o : Enclosing) → enclosing_of (enclosing_code o) ≡ o
enclosing-back whole = refl
enclosing-back (in_group d span) =
    ap (λ e. in_group e (span_of (span_code span))) (delimiter_back d)
    ∙ ap (in_group d) (span_back span)

-- enclosures, as a model holds them
abbrev pub coded_enclosing : Coded Enclosing
coded_enclosing =
    code_by EnclosingCode (coded_option (coded× coded_ℕ coded_span)) enclosing_code enclosing_of
    enclosing-back

-- a frame: its enclosure, the trees passed, and the trees ahead
abbrev pub FrameCode : Type 0
FrameCode = Enclosing × (Forest × Forest)

-- the code of a frame
abbrev pub frame_code : Frame → FrameCode
frame_code (frame o p a) = (o, (p, a))

-- a frame, from its code
abbrev pub frame_of : FrameCode → Frame
frame_of c = frame c.0 c.1.0 c.1.1

-- a frame is read back from its code
pub frame-back : (l : Frame) → frame_of (frame_code l) ≡ l
frame-back (frame o p a) = refl

-- frames, as a model holds them
abbrev pub coded_frame : Coded Frame
coded_frame =
    code_by FrameCode
    (coded× coded_enclosing (coded× forest_code forest_code)) frame_code frame_of frame-back

-- a place: `None` if it is empty, else its three numbers, and its frames from the innermost out
abbrev pub PlaceCode : Type 0
PlaceCode = Option (ℕ × (ℕ × (ℕ × (Frame × List Frame))))

-- the code of a place
abbrev pub place_code : Place → PlaceCode
place_code empty_place = None
place_code (at number scope count l ls) = Some (number, (scope, (count, (l, ls))))

-- a place, from its code
abbrev pub place_from : PlaceCode → Place
place_from None = empty_place
place_from (Some c) = at c.0 c.1.0 c.1.1.0 c.1.1.1.0 c.1.1.1.1

-- a place is read back from its code
pub place-back : (p : Place) → place_from (place_code p) ≡ p
place-back empty_place = refl
place-back (at number scope count l ls) = refl

-- places, as a model holds them
abbrev pub coded_place : Coded Place
coded_place =
    let frames = coded× coded_frame (coded_list coded_frame) in
    code_by PlaceCode
    (coded_option
    (coded× coded_ℕ
    (coded× coded_ℕ (coded× coded_ℕ frames)))) place_code place_from place-back

-- a leftover: the span, and the delimiter as a number
abbrev pub LeftoverCode : Type 0
LeftoverCode = SpanCode × ℕ

-- the code of a leftover
abbrev pub leftover_code : Leftover → LeftoverCode
leftover_code l = (span_code l.span, delimiter_code l.delimiter)

-- a leftover, from its code
abbrev pub leftover_from : LeftoverCode → Leftover
leftover_from c = record { span = span_of c.0; delimiter = delimiter_of c.1 }

-- a leftover is read back from its code
pub leftover-back : (l : Leftover) → leftover_from (leftover_code l) ≡ l
leftover-back l =
    ap (λ s. record { span = s; delimiter = delimiter_of (delimiter_code l.delimiter) })
    (span_back l.span)
    ∙ ap (λ d. record { span = l.span; delimiter = d }) (delimiter_back l.delimiter)

-- leftovers, as a model holds them
abbrev pub coded_leftover : Coded Leftover
coded_leftover =
    code_by LeftoverCode (coded× coded_span coded_ℕ) leftover_code leftover_from leftover-back
