-- What is shown of an error or a note: its words, its place, the line that it is about, and carets.
use Rattle.std.specs.Prelude.{◌≡◌, ℕ, ◌+◌, ◌-◌, List, [], ◌∷◌, ◌++◌, Option, Some, None, take, drop}
use Rattle.std.specs.Prelude.{codes, length}
use Rattle.std.specs.Fmt.{decimal}
use Rattle.std.specs.List.{flat_map, repeat}
use Rattle.std.specs.Str.{chars, IsCharBoundary}
use Rattle.tok_lexical.specs.Ascii.{space}
use Rattle.tok_leaves.specs.Spans.{range}
use Rattle.tok_leaves.specs.declared.span.Span.{Span}
use Rattle.tok_core.specs.Lexical.Errors.{Explains, error_span, error_words}
use Rattle.tok_core.specs.declared.lexer.error.LexError.{LexError}
use Rattle.tok_buffer.specs.Messages.{first_message_span, first_text}
use Rattle.tok_buffer.specs.declared.error.Message.{Message}
use Rattle.tok_carets.specs.Lines.{IsFirstLine, IsLastLine, line_number, marks, shown_character, within}
use Rattle.tok_carets.specs.Lines.{without_return}
use Rattle.tok_carets.specs.declared.source.Source.{Source}

-- the words alone, at this level: an error, or a note of one
abbrev pub words_alone : (level words : List ℕ) → List ℕ
words_alone level words = level ++ (codes ": " ++ (words ++ codes "\n"))

-- `^`
abbrev pub caret : ℕ
caret = 94

-- at least one caret
abbrev pub carets : List ℕ → List ℕ
carets [] = caret ∷ []
carets (c ∷ text) = c ∷ text

-- spaces as wide as the number of the line
abbrev pub gutter : (line : ℕ) → List ℕ
gutter line = repeat (length (decimal line)) (space ∷ [])

-- the words, and the name of the source
abbrev pub heading : (level words gutter name : List ℕ) → List ℕ
heading level words gutter name =
    words_alone level words ++ (gutter ++ (codes "--> " ++ (name ++ codes ":")))

-- the place
abbrev pub place : (line column : ℕ) → (gutter : List ℕ) → List ℕ
place line column gutter =
    decimal line ++ (codes ":" ++ (decimal column ++ (codes "\n" ++ (gutter ++ codes " |\n"))))

-- two parts of a line
abbrev pub row : (line : ℕ) → (head tail gutter : List ℕ) → List ℕ
row line head tail gutter =
    decimal line ++ (codes " | " ++ (head ++ (tail ++ (codes "\n" ++ (gutter ++ codes " | ")))))

-- the words, the place and a line, with carets under what is marked
abbrev pub drawn : (level words name : List ℕ) → (line : ℕ) → (head tail marked : List ℕ) → List ℕ
drawn level words name line head tail marked =
    heading level words (gutter line) name
    ++ (place line (length head + 1) (gutter line)
    ++ (row line (flat_map shown_character head) (flat_map shown_character tail) (gutter line)
    ++ (marks space head ++ (carets (marks caret marked) ++ codes "\n"))))

-- the words and the line between these two parts of a text, with carets under so many bytes after
abbrev pub IsPlaced : (level words name before after : List ℕ) → (bytes : ℕ) → List ℕ → Type 0
IsPlaced level words name before after bytes out =
    (head : List ℕ) × (line : List ℕ) × IsLastLine (chars before) head
    × IsFirstLine (chars after) line
    × (out ≡ drawn level words name (line_number (chars before)) head (without_return line)
    (within bytes (without_return line)))

-- a span of this source, whose start is at a character
abbrev pub IsIn : Source → Option (ℕ × ℕ × ℕ) → Type 0
IsIn source None = ⊥
IsIn source (Some (number, start, end)) =
    (number ≡ source.number) × IsCharBoundary source.text.now start

-- the words at a span: with its line if it is in this source, and else alone
abbrev pub Shows : Source → (level words : List ℕ) → Option (ℕ × ℕ × ℕ) → List ℕ → Type 0
Shows source level words None out = out ≡ words_alone level words
Shows source level words (Some (number, start, end)) out =
    (IsIn source (Some (number, start, end)) → IsPlaced level words source.name.now
    (take start source.text.now) (drop start source.text.now) (end - start) out)
    × ((IsIn source (Some (number, start, end)) → ⊥) → out ≡ words_alone level words)

-- a span of the source of this number
abbrev pub IsOf : (number : ℕ) → Option (ℕ × ℕ × ℕ) → Type 0
IsOf number None = ⊥
IsOf number (Some (other, start, end)) = other ≡ number

-- an error of the lexer: explained to readers of this text if its span is of this source, and else
-- its message alone
abbrev pub ShowsLex : Source → LexError → List ℕ → Type 0
ShowsLex source error out =
    (IsOf source.number (range (error_span error)) → (span : Span) × (words : List ℕ)
    × Explains (chars source.text.now) error (span, words)
    × Shows source (codes "error") words (range span) out)
    × ((IsOf source.number (range (error_span error)) → ⊥)
    → out ≡ words_alone (codes "error") (error_words error))

-- each of these messages is shown, in turn: the first at this level, and the others as notes
pub data ShowsEach (source : Source) : (level : List ℕ) → List (List Message) → List ℕ → Type 0
  where
    shows_none : (level : List ℕ) → ShowsEach source level [] []
    shows_more : (level : List ℕ) (message : List Message) (messages : List (List Message))
        (one rest : List ℕ)
        → Shows source level (first_text message) (range (first_message_span message)) one
        → ShowsEach source (codes "note") messages rest
        → ShowsEach source level (message ∷ messages) (one ++ rest)
