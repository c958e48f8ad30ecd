-- Spans, and the spans of a group's two delimiters.
use Rattle.std.specs.Prelude.{ℕ, ◌+◌, ◌-◌, min, max, nat_lt, ◌==◌, if◌then◌else◌}
use Rattle.std.specs.Prelude.{Option, Some, None, unwrap_or}
use Rattle.tok_leaves.specs.declared.span.Origin.{Origin}
use Rattle.tok_leaves.specs.declared.span.Origin.TheVariants.{CallSite, Source}
use Rattle.tok_leaves.specs.declared.span.Span.{Span}
use Rattle.tok_leaves.specs.declared.span.Bounds.{Bounds}
use Rattle.tok_leaves.specs.declared.span.Bounds.TheVariants as bounds
use Rattle.tok_leaves.specs.declared.span.DelimSpan.{DelimSpan}
use Rattle.tok_lexical.specs.declared.delimiter.Delimiter.{Delimiter}

-- the span of a token that was not read from a source
abbrev pub call_site : Span
call_site = record { origin = CallSite }

-- the bytes from `start` up to `end`, without that one, of the source of this number
abbrev pub source : ℕ → ℕ → ℕ → Span
source number start end = record { origin = Source number start end }

-- the delimiter of a group, in its bounds
abbrev pub bounds_delimiter : Bounds → Delimiter
bounds_delimiter (bounds.CallSite delimiter) = delimiter
bounds_delimiter (bounds.Source delimiter number start end) = delimiter

-- the span of a whole group, in its bounds
abbrev pub bounds_span : Bounds → Span
bounds_span (bounds.CallSite delimiter) = call_site
bounds_span (bounds.Source delimiter number start end) = source number start end

-- the first byte of a span; an empty range and the call site are themselves
abbrev pub opening_span : Span → Span
opening_span span =
    elim span.origin [
      | CallSite ↦ span
      | Source n a b ↦ if nat_lt a b then source n a (a + 1) else span
    ]

-- the last byte of a span; an empty range and the call site are themselves
abbrev pub closing_span : Span → Span
closing_span span =
    elim span.origin [
      | CallSite ↦ span
      | Source n a b ↦ if nat_lt a b then source n (b - 1) b else span
    ]

-- one span that covers both, in one source
abbrev joined_origins : Origin → Origin → Option Span
joined_origins (Source n a b) (Source m c d) =
    if n == m then Some (source n (min a c) (max b d)) else None
joined_origins p q = None

-- the span that covers both; `None` for two sources, and for the call site
abbrev pub join : Span → Span → Option Span
join left right = joined_origins left.origin right.origin

-- the span that covers both, or the first if no span does
abbrev pub covering : Span → Span → Span
covering start end = unwrap_or (join start end) start

-- the number of a source and the range in it
abbrev pub range : Span → Option (ℕ × ℕ × ℕ)
range span = elim span.origin [ CallSite ↦ None | Source n a b ↦ Some (n, a, b) ]

-- the span of a group from its opening to its closing
abbrev pub whole_span : DelimSpan → Span
whole_span s = s.join
