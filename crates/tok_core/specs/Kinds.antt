-- The kind of a tree: an identifier, a literal, a punct, or any.
use Rattle.std.specs.Prelude.{◌==◌, not, Bool, true, false}
use Rattle.tok_lexical.specs.Ascii.{apostrophe}
use Rattle.tok_leaves.specs.Leaves.{ident, punct, literal}
use Rattle.tok_core.specs.Forest.{Tree, leaf}

-- an identifier, raw or not, keywords among them
abbrev pub is_ident : Tree → Bool
is_ident (leaf (ident text span)) = true
is_ident t = false

-- a literal of any kind
abbrev pub is_literal : Tree → Bool
is_literal (leaf (literal text span)) = true
is_literal t = false

-- a punct other than an apostrophe
abbrev pub is_punct : Tree → Bool
is_punct (leaf (punct c spacing span)) = not (c == apostrophe)
is_punct t = false

-- a test that every tree passes
abbrev pub any_tree : Tree → Bool
any_tree t = true
