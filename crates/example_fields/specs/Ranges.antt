-- Ranges of tokens.
use Rattle.std.specs.Prelude.{List, [], ◌∷◌, Option, None, Some}
use Rattle.tok_leaves.specs.declared.ident.Ident.{Ident}
use Rattle.tok_leaves.specs.declared.span.Span.{Span}
use Rattle.tok_core.specs.Forest.{Forest}
use Rattle.tok_entries.specs.Entries.{end_byte, first_byte}
use Rattle.tok_types.specs.Printed.{first_span}
use Rattle.syn_parse.specs.TokenNames.{PathSep, Token}
use Rattle.syn_derive.specs.Metas.{MetaInput, assigned, delimited, no_input}
use Rattle.syn_derive.specs.Paths.{PathForm}
use Rattle.syn_derive.specs.Visibilities.{VisibilityForm, inherited, public, restricted}
use Rattle.syn_derive.specs.declared.path.PathSegment.{PathSegment}
use Rattle.example_fields.specs.Ends.{Ends, ends_after, widened}
use Rattle.example_fields.specs.declared.ranges.Range.{Range}

-- from the first byte of one span to the end of another
abbrev pub between : (first last : Span) → Range
between first last = record { start = first_byte first; end = end_byte last }

-- the empty range at byte 0, if there are no tokens
abbrev pub no_range : Range
no_range = record { start = 0; end = 0 }

-- from the first span to the last; the empty range if there are none
abbrev pub of_ends : Ends → Range
of_ends None = no_range
of_ends (Some ends) = between ends.0 ends.1

-- from the first of some trees to the last
abbrev pub of_tokens : Forest → Range
of_tokens f = of_ends (ends_after None f)

-- the bytes of an identifier
abbrev pub of_ident : Ident → Range
of_ident i = between i.span i.span

-- the bytes of a name; the empty range if there is none
abbrev pub of_name : Option Ident → Range
of_name None = no_range
of_name (Some i) = of_ident i

-- the spans of the `::` before a path, if there is one
abbrev pub leading_ends : Option (Token PathSep) → Ends
leading_ends None = None
leading_ends (Some colon) = Some (first_span colon.spans, first_span colon.spans)

-- with all segments of a path
abbrev pub segments_after : Ends → List PathSegment → Ends
segments_after ends [] = ends
segments_after ends (s ∷ ss) = segments_after (Some (widened ends s.ident.span)) ss

-- from the `::` before a path, or its first segment, to its last
abbrev pub of_path : PathForm → Range
of_path p = of_ends (segments_after (leading_ends p.0) p.1.0)

-- `pub`, and the parentheses after it
abbrev pub of_visibility : VisibilityForm → Range
of_visibility (public word) = between word.span word.span
of_visibility (restricted v) = between v.0.span v.1.join
of_visibility inherited = no_range

-- the tokens of an attribute in its delimiters, or after `=`
abbrev pub of_input : MetaInput → Range
of_input no_input = no_range
of_input (delimited d span inside) = of_tokens inside
of_input (assigned eq value) = of_tokens value
