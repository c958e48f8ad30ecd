-- The contents of doc comments (Rust Reference: Comments, Doc comments), and which are rejected.
use Rattle.std.specs.Prelude.{ℕ, List, [], ◌∷◌, ◌-◌, Bool, true, false, not, length, take}
use Rattle.tok_lexical.specs.Ascii.{carriage_return, exclamation_mark, line_feed}
use Rattle.tok_lexical.specs.Pieces.{after_first, begins_with, up_to, from_first}

-- what follows the three characters that make a comment a doc comment
abbrev pub after_mark : List ℕ → List ℕ
after_mark piece = after_first (after_first (after_first piece))

-- a `!` is the third character: the comment documents the item that contains it
abbrev pub is_inner_doc : List ℕ → Bool
is_inner_doc piece = begins_with exclamation_mark (after_first (after_first piece))

-- The contents of a line comment. One that is not rejected has a U+000D at its end alone.
abbrev pub line_doc_text : List ℕ → List ℕ
line_doc_text piece = up_to carriage_return (after_mark piece)

-- a U+000D, if there is one, isn't the last character before a line feed
abbrev pub is_bare : List ℕ → List ℕ → Bool
is_bare [] after = false
is_bare (c ∷ []) after = not (begins_with line_feed after)
is_bare (c ∷ d ∷ rest) after = true

-- the line comment holds a U+000D that is not part of the line ending after it
abbrev pub breaks_line : List ℕ → List ℕ → Bool
breaks_line piece after = is_bare (from_first carriage_return piece) after

-- what a block comment says: it ends before the last two characters
abbrev pub block_doc_text : List ℕ → List ℕ
block_doc_text piece = take (length (after_mark piece) - 2) (after_mark piece)
