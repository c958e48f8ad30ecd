-- The kinds of literals, by their texts, and how a literal of one kind is read and parsed.
use Rattle.std.specs.Prelude.{◌≡◌, ℕ, Bool, false, not, ◌&&◌, if◌then◌else◌, is_some, codes}
use Rattle.std.specs.Prelude.{List, [], ◌∷◌, Option, Some, None}
use Rattle.std.specs.Str.{chars}
use Rattle.tok_lexical.specs.Numbers.{starts_digit}
use Rattle.tok_leaves.specs.declared.literal.Literal.{Literal}
use Rattle.tok_leaves.specs.Leaves.{ident, literal}
use Rattle.tok_core.specs.Forest.{Tree, leaf}
use Rattle.tok_buffer.specs.Descent.{descend}
use Rattle.tok_buffer.specs.Place.{Place}
use Rattle.tok_buffer.specs.Reads.{read_ident, read_if, read_word}
use Rattle.tok_values.specs.Strings.{bool_of}
use Rattle.tok_values.specs.Values.{integer_value}
use Rattle.syn_parse.specs.ErrorWords.{name_in, refused_at}
use Rattle.syn_parse.specs.Parses.{IsLiteral}
use Rattle.syn_parse.specs.Reads.{Call, Reads, ReadsAtOnce}
use Rattle.syn_literals.specs.declared.boolean.LitBool.{LitBool}

-- an integer literal, perhaps with a suffix
abbrev pub is_integer : List ℕ → Bool
is_integer text = is_some (integer_value (chars text))

-- a float literal, perhaps with a suffix: a number that is no integer
abbrev pub is_float : List ℕ → Bool
is_float text = starts_digit text && not (is_integer text)

-- `true` or `false`
abbrev pub is_bool : List ℕ → Bool
is_bool text = is_some (bool_of text)

-- the text of a truth value
abbrev pub bool_text : Bool → List ℕ
bool_text value = if value then codes "true" else codes "false"

-- a literal of which a test of its text is true
abbrev pub is_literal_of : (List ℕ → Bool) → Tree → Bool
is_literal_of wanted (leaf (literal text span)) = wanted text
is_literal_of wanted t = false

-- the next literal, if the test of its text is true
abbrev pub read_literal_of : (List ℕ → Bool) → Place → Option (List Tree × Place)
read_literal_of wanted p = read_if (is_literal_of wanted) (descend p)

-- a literal of a kind, or an error with these words
abbrev pub KindParses : (List ℕ → Bool) → List ℕ → Call Literal
KindParses accepts words s =
    Reads IsLiteral (read_literal_of accepts s.place) (refused_at s words) s

-- the value that is read at a place
abbrev pub value_in : Option (List Tree × Place) → Option Bool
value_in None = None
value_in (Some r) = bool_of (name_in r.0)

-- the value of `true` or `false`, if one of them is next
abbrev pub read_bool : Place → Option Bool
read_bool p = value_in (read_ident p)

-- the one tree that a truth value is
abbrev pub IsBool : LitBool → List Tree → Type 0
IsBool b ts = ts ≡ leaf (ident (bool_text b.value) b.span) ∷ []

-- `true` or `false`, or an error
abbrev pub BoolParses : Call LitBool
BoolParses s =
    let words = codes "expected boolean literal" in
    ReadsAtOnce IsBool (read_word is_bool s.place) (refused_at s words) s
