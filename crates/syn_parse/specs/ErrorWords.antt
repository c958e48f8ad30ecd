-- The texts of errors, and their messages.
use Rattle.std.specs.Prelude.{ℕ, List, [], ◌∷◌, ◌++◌, Option, Some, None, codes}
use Rattle.tok_lexical.specs.declared.delimiter.Delimiter.{Delimiter}
use Rattle.tok_lexical.specs.declared.delimiter.Delimiter.TheVariants.{Parenthesis, Brace, Bracket}
use Rattle.tok_lexical.specs.declared.delimiter.Delimiter.TheVariants as delimiter
use Rattle.tok_leaves.specs.declared.span.Span.{Span}
use Rattle.tok_leaves.specs.Leaves.{ident}
use Rattle.tok_leaves.specs.Spans.{call_site}
use Rattle.tok_core.specs.Forest.{Tree, leaf, tree_span}
use Rattle.tok_buffer.specs.Ahead.{Leftover}
use Rattle.tok_buffer.specs.Place.{Place}
use Rattle.tok_buffer.specs.Reads.{read_punct}
use Rattle.tok_buffer.specs.Messages.{at_stream, message_at, stream_span}
use Rattle.tok_buffer.specs.declared.error.Message.{Message}
use Rattle.tok_types.specs.Delimiters.{delimiter_display}
use Rattle.tok_types.specs.Texts.{in_backquotes}
use Rattle.syn_parse.specs.State.{State}

-- an error at a stream, which names the end if the stream is at its end
abbrev pub refused_at : State → List ℕ → Message
refused_at s words = at_stream s.place s.scope_span words

-- the words before what is expected
abbrev pub expected : List ℕ → List ℕ
expected what = codes "expected " ++ what

-- the text of the first identifier among the trees read
abbrev pub name_in : List Tree → List ℕ
name_in [] = []
name_in (leaf (ident text span) ∷ ts) = text
name_in (t ∷ ts) = name_in ts

-- the text of the error at a missing identifier: there is none, or a keyword is next
abbrev pub ident_words : {P : Type 0} → Option (List Tree × P) → List ℕ
ident_words None = codes "expected identifier"
ident_words (Some r) = codes "expected identifier, found keyword " ++ in_backquotes (name_in r.0)

-- the text of the error at a missing lifetime: there is none, or its name is a keyword
abbrev pub lifetime_words : {P : Type 0} → Option (List Tree × P) → List ℕ
lifetime_words None = codes "expected lifetime"
lifetime_words (Some r) = codes "unexpected keyword lifetime \"'" ++ (name_in r.0 ++ codes "\"")

-- the span of the one tree that is read
abbrev pub span_in : List Tree → Span
span_in [] = call_site
span_in (t ∷ ts) = tree_span t

-- the span of the punct that is read, and else this one
abbrev pub punct_span : Option (List Tree × Place) → Span → Span
punct_span None span = span
punct_span (Some r) span = span_in r.0

-- the span of a punctuation's error: the next punct's, if there is one and the text isn't empty
abbrev pub punctuation_span : List ℕ → State → Span
punctuation_span [] s = stream_span s.place s.scope_span
punctuation_span (c ∷ cs) s = punct_span (read_punct s.place) (stream_span s.place s.scope_span)

-- a punctuation's error, whose words don't name the end
abbrev pub punctuation_message : List ℕ → State → Message
punctuation_message text s =
    message_at (punctuation_span text s) (expected (in_backquotes text))

-- the text of the error at a missing group
abbrev pub delimiter_words : Delimiter → List ℕ
delimiter_words d = expected (delimiter_display d)

-- the text of the error at a tree left over in a scope
abbrev pub leftover_words : Delimiter → List ℕ
leftover_words Parenthesis = codes "unexpected token, expected `)`"
leftover_words Brace = codes "unexpected token, expected `}`"
leftover_words Bracket = codes "unexpected token, expected `]`"
leftover_words delimiter.None = codes "unexpected token"

-- a leftover's error
abbrev pub leftover_message : Leftover → Message
leftover_message l = message_at l.span (leftover_words l.delimiter)
