-- How literals of one kind are taken.
use Rattle.std.specs.Prelude.{ℕ, Bool, false, List, ◌∷◌, bytes_eq, codes, is_some}
use Rattle.tok_leaves.specs.declared.literal.Literal.{Literal}
use Rattle.tok_leaves.specs.Leaves.{ident}
use Rattle.tok_leaves.specs.Spans.{call_site}
use Rattle.tok_core.specs.Forest.{Tree, leaf, Forest}
use Rattle.tok_buffer.specs.EachRead.{first_if}
use Rattle.tok_buffer.specs.Reads.{is_ident_of}
use Rattle.syn_parse.specs.Lighter.{by-lowers, if-shorter, lightening, lightens_lower, lowering}
use Rattle.syn_parse.specs.Takes.{Taking, missing_next, take_by}
use Rattle.syn_parse.specs.Takings.{Lightens, Lowers}
use Rattle.syn_parse.specs.Tokens.{literal_in}
use Rattle.syn_parse.specs.TreesAhead.{Ahead}
use Rattle.syn_literals.specs.Kinds.{is_bool, is_float, is_integer, is_literal_of}
use Rattle.syn_literals.specs.declared.boolean.LitBool.{LitBool}
use Rattle.tok_values.specs.Suffixed.{begins_string}

-- a literal of a kind, or else these words are missing
abbrev pub take_kind : (List ℕ → Bool) → List ℕ → Taking Literal
take_kind accepts words = take_by (first_if (is_literal_of accepts)) literal_in (missing_next words)

-- the truth value that one tree is
abbrev pub bool_in : List Tree → LitBool
bool_in (leaf (ident text span) ∷ ts) =
    record { value = bytes_eq text (codes "true"); span = span }
bool_in ts = record { value = false; span = call_site }

-- a string literal, raw or not: of all literals these alone begin with a quote, or with `r`
unfoldable pub take_string : Taking Literal
take_string = take_kind begins_string (codes "expected string literal")

-- an integer literal, perhaps with a suffix
unfoldable pub take_integer : Taking Literal
take_integer = take_kind is_integer (codes "expected integer literal")

-- a float literal, perhaps with a suffix
unfoldable pub take_float : Taking Literal
take_float = take_kind is_float (codes "expected floating point literal")

-- `true` or `false`, with its span
unfoldable pub take_bool : Taking LitBool
take_bool =
    take_by (first_if (is_ident_of is_bool)) bool_in
    (missing_next (codes "expected boolean literal"))

-- a string literal is first
unfoldable pub string_first : Forest → Bool
string_first f = is_some (first_if (is_literal_of begins_string) f)

-- an integer literal is first
unfoldable pub integer_first : Forest → Bool
integer_first f = is_some (first_if (is_literal_of is_integer) f)

-- a float literal is first
unfoldable pub float_first : Forest → Bool
float_first f = is_some (first_if (is_literal_of is_float) f)

-- `true` or `false` is first
unfoldable pub bool_first : Forest → Bool
bool_first f = is_some (first_if (is_ident_of is_bool) f)

-- a string literal is the first visible tree ahead
abbrev pub sees_string : Ahead → Bool
sees_string a = string_first a.trees

-- an integer literal is the first visible tree ahead
abbrev pub sees_integer : Ahead → Bool
sees_integer a = integer_first a.trees

-- a float literal is the first visible tree ahead
abbrev pub sees_float : Ahead → Bool
sees_float a = float_first a.trees

-- `true` or `false` is the first visible tree ahead
abbrev pub sees_bool : Ahead → Bool
sees_bool a = bool_first a.trees

-- less is ahead after a string
pub lowers_string : Lowers take_string
unfolding take_string
lowers_string = by-lowers _ _ _ (if-shorter _)

-- less is ahead after an integer
pub lowers_integer : Lowers take_integer
unfolding take_integer
lowers_integer = by-lowers _ _ _ (if-shorter _)

-- less is ahead after a float
pub lowers_float : Lowers take_float
unfolding take_float
lowers_float = by-lowers _ _ _ (if-shorter _)

-- less is ahead after `true` or `false`
pub lowers_bool : Lowers take_bool
unfolding take_bool
lowers_bool = by-lowers _ _ _ (if-shorter _)

-- no more is ahead after a string
pub lightens_string : Lightens take_string
lightens_string = lightens_lower take_string lowers_string

-- no more is ahead after an integer
pub lightens_integer : Lightens take_integer
lightens_integer = lightens_lower take_integer lowers_integer

-- no more is ahead after a float
pub lightens_float : Lightens take_float
lightens_float = lightens_lower take_float lowers_float

-- no more is ahead after `true` or `false`
pub lightens_bool : Lightens take_bool
lightens_bool = lightens_lower take_bool lowers_bool

-- with these, `search` proves that what is built of tokens, groups and literals adds nothing
pub ruleset literals_lighten = (
  lightening,
  lightens_string,
  lightens_integer,
  lightens_float,
  lightens_bool,
)

-- with these, `search` proves that what is built of tokens, groups and literals takes something
pub ruleset literals_lower = (
  lowering,
  literals_lighten,
  lowers_string,
  lowers_integer,
  lowers_float,
  lowers_bool,
)
