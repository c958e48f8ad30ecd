-- What follows a piece: whether a punct is joint (Rust Reference: Procedural macros, on the spacing
-- of punctuation).
use Rattle.std.specs.Prelude.{ℕ, List, [], ◌∷◌, Bool, true, false, not, ◌||◌, ◌&&◌, ◌==◌, if◌then◌else◌}
use Rattle.tok_lexical.specs.Ascii.{close_mark, dot, open_mark, slash, star}
use Rattle.tok_lexical.specs.Characters.{is_punct_or_apostrophe}
use Rattle.tok_lexical.specs.Words.{is_identifier_start}

-- the text goes on with a comment
abbrev pub begins_comment : List ℕ → Bool
begins_comment [] = false
begins_comment (c ∷ []) = false
begins_comment (c ∷ d ∷ rest) = (c == slash) && ((d == slash) || (d == star))

-- a punctuation character follows, the apostrophe among them
abbrev pub starts_punct : List ℕ → Bool
starts_punct [] = false
starts_punct (c ∷ rest) = is_punct_or_apostrophe c

-- one that doesn't begin a comment
abbrev pub makes_joint : List ℕ → Bool
makes_joint text = starts_punct text && not (begins_comment text)

-- the text begins with a character that may begin an identifier
abbrev pub starts_name : List ℕ → Bool
starts_name [] = false
starts_name (c ∷ rest) = is_identifier_start c

-- the text after the marks of invisible groups at its front
abbrev pub past_marks : List ℕ → List ℕ
past_marks [] = []
past_marks (c ∷ rest) =
    if (c == open_mark) || (c == close_mark) then past_marks rest else (c ∷ rest)

-- what makes an apostrophe of marked text joint: an identifier or a punctuation character follows,
-- through marks
abbrev pub makes_joint_apostrophe : List ℕ → Bool
makes_joint_apostrophe text = starts_name (past_marks text) || starts_punct (past_marks text)

-- what follows a dot directly after digits leaves it to a float
abbrev pub takes_point : List ℕ → Bool
takes_point [] = true
takes_point (c ∷ rest) = not ((c == dot) || is_identifier_start c)
