-- Lines of a text, and how many columns a character takes. Texts are lists of characters, unless a
-- definition says bytes.
use Rattle.std.specs.Prelude.{◌≡◌, ℕ, ◌+◌, ◌-◌, ◌==◌, ◌⊎◌, List, [], ◌∷◌, ◌++◌, true, false}
use Rattle.std.specs.Prelude.{◌<◌, ◌≤◌, if◌then◌else◌, unwrap_or, count_by, drop, encode_utf8}
use Rattle.std.specs.Prelude.{get_or, length, take}
use Rattle.std.specs.List.{flat_map, list_all, repeat}
use Rattle.std.specs.Char.{len_utf8}
use Rattle.std.specs.Str.{chars, IsCharBoundary}
use Rattle.tok_lexical.specs.Ascii.{carriage_return, line_feed, space, tab}
use Rattle.tok_lexical.specs.Comments.{is_not_line_feed}
use Rattle.tok_carets.specs.declared.line.LineColumn.{LineColumn}
use Rattle.memchr.specs.Find.{Nowhere, Passes, is_byte}
use Rattle.unicode_width.specs.Width.{char_width}

-- the last line of a text: no line feed is in it, and one is before it, or nothing
abbrev pub IsLastLine : (text line : List ℕ) → Type 0
IsLastLine text line =
    (list_all is_not_line_feed line ≡ true)
    × ((text ≡ line) ⊎ ((front : List ℕ) × (text ≡ front ++ line_feed ∷ line)))

-- the first line of a text: no line feed is in it, and one is after it, or nothing
abbrev pub IsFirstLine : (text line : List ℕ) → Type 0
IsFirstLine text line =
    (list_all is_not_line_feed line ≡ true)
    × ((text ≡ line) ⊎ ((rest : List ℕ) × (text ≡ line ++ line_feed ∷ rest)))

-- how many line feeds a text has: a list of characters, or of bytes
abbrev pub line_feeds : List ℕ → ℕ
line_feeds text = count_by (is_byte line_feed) text

-- the number of the line in which a text ends, from 1
abbrev pub line_number : List ℕ → ℕ
line_number text = 1 + line_feeds text

-- a line without the carriage return of its end
abbrev pub without_return : List ℕ → List ℕ
without_return [] = []
without_return (c ∷ []) = if c == carriage_return then [] else c ∷ []
without_return (c ∷ (d ∷ line)) = c ∷ without_return (d ∷ line)

-- the characters that begin in the first bytes
abbrev pub within : (bytes : ℕ) → List ℕ → List ℕ
within bytes [] = []
within bytes (c ∷ text) = if bytes == 0 then [] else c ∷ within (bytes - len_utf8 c) text

-- a tab takes four columns, and a control character none
abbrev pub columns : ℕ → ℕ
columns c = if c == tab then 4 else unwrap_or (char_width false c) 0

-- the text that shows a character
abbrev pub shown_character : ℕ → List ℕ
shown_character c = if c == tab then space ∷ space ∷ space ∷ space ∷ [] else encode_utf8 c

-- this mark in each column of a text
abbrev pub marks : (mark : ℕ) → List ℕ → List ℕ
marks mark text = flat_map (λ c. repeat (columns c) (mark ∷ [])) text

-- the line and the column of the place after a text
abbrev pub IsLineColumn : (before : List ℕ) → LineColumn → Type 0
IsLineColumn before place =
    (place.line ≡ line_number (chars before))
    × ((line : List ℕ) × IsLastLine (chars before) line × (place.column ≡ 1 + length line))

-- a line begins at this byte: it is the first byte, or the one after a line feed
abbrev pub BeginsLine : (text : List ℕ) → (at : ℕ) → Type 0
BeginsLine text at =
    (at ≡ 0) ⊎ ((feed : ℕ) × (at ≡ feed + 1) × Passes (is_byte line_feed) text feed)

-- the line of the byte `at` begins at `start`: a line begins there, and no line feed is between
-- the two
pub record IsLineStart (text : List ℕ) (at start : ℕ) : Type 0 where
  pub low : start ≤ at
  pub begins : BeginsLine text start
  pub unbroken : Nowhere (Passes (is_byte line_feed) text) start at

-- the place before a byte of a text, at which a character begins or the text ends
abbrev pub IsKnown : (text : List ℕ) → (at : ℕ) → LineColumn → Type 0
IsKnown text at place = IsCharBoundary text at × IsLineColumn (take at text) place

-- line 0 and column 0, which no place of a text has
abbrev pub nowhere : LineColumn
nowhere = record { line = 0; column = 0 }

-- the place before a byte of a text; nowhere if it is within a character or past the end
abbrev pub IsPlaceAt : (text : List ℕ) → (at : ℕ) → LineColumn → Type 0
IsPlaceAt text at place =
    IsKnown text at place ⊎ (¬ (IsCharBoundary text at) × (place ≡ nowhere))

-- the place before each of these bytes is written, in order, and the rest is as before
pub record ArePlaces (text bytes : List ℕ) (old new : List LineColumn) : Type 0 where
  pub count : length new ≡ length old
  pub places : (k : ℕ) → k < length bytes →
      IsPlaceAt text (get_or bytes k 0) (get_or new k nowhere)
  pub rest : drop (length bytes) new ≡ drop (length bytes) old

-- the text between two bytes, without a line feed
abbrev pub IsStretch : (text : List ℕ) → (from at : ℕ) → List ℕ → Type 0
IsStretch text from at between =
    (take at text ≡ take from text ++ between) × (list_all is_not_line_feed (chars between) ≡ true)
