-- What a caller promises of two places.
use Rattle.std.specs.Prelude.{◌≡◌, Bool, false, Option, Some, None, is_some}
use Rattle.tok_buffer.specs.Buffer.{Laid}
use Rattle.tok_buffer.specs.Place.{Place}
use Rattle.tok_buffer.specs.Reads.{read_ident, skip}
use Rattle.tok_buffer.specs.SameView.{SameView}

-- one answer, if the views of the places are equal
abbrev pub IsSame : Place → Place → Bool → Bool → Type 0
IsSame p q left right = (b c : Laid) → SameView b c p q → left ≡ right

-- there is a place, and a name is next
abbrev pub is_name : Option Place → Bool
is_name None = false
is_name (Some p) = is_some (read_ident p)

-- a name comes after the next token
abbrev pub is_name_second : Place → Bool
is_name_second p = is_name (skip p)
