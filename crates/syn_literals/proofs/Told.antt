-- Literals of a kind take what is ahead, and peeks see it.
use Rattle.std.proofs.Common.{arith, ◌≡◌, ◌∙◌, sym, ap, refl, ℕ, Bool, List}
use Rattle.std.specs.Prelude.{Result, codes}
use Rattle.tok_leaves.specs.declared.literal.Literal.{Literal}
use Rattle.tok_core.specs.Forest.{Tree}
use Rattle.tok_buffer.specs.EachRead.{first_if}
use Rattle.tok_buffer.specs.Place.{Place}
use Rattle.tok_buffer.specs.Reads.{is_ident_of, read_word}
use Rattle.tok_buffer.specs.View.{erased_ahead}
use Rattle.tok_buffer.proofs.View.Readings.{Reading, of_word, one}
use Rattle.tok_buffer.proofs.View.Tells.{tells}
use Rattle.tok_types.specs.Looks.{PeeksFor}
use Rattle.tok_types.proofs.Seen.{found_as}
use Rattle.syn_parse.specs.ErrorWords.{refused_at}
use Rattle.syn_parse.specs.Parses.{IsLiteral}
use Rattle.syn_parse.specs.State.{State}
use Rattle.syn_parse.specs.Takes.{Takes, missing_next}
use Rattle.syn_parse.specs.Tokens.{literal_in}
use Rattle.syn_parse.specs.declared.fault.Fault.{Fault}
use Rattle.syn_parse.proofs.Told.{here_told, read_told, told-at-once}
use Rattle.syn_literals.specs.Kinds.{BoolParses, IsBool, KindParses, is_bool, is_float}
use Rattle.syn_literals.specs.Kinds.{is_integer, is_literal_of, read_literal_of}
use Rattle.syn_literals.specs.TakeLiterals.{bool_first, bool_in, float_first, integer_first}
use Rattle.syn_literals.specs.TakeLiterals.{string_first, take_bool, take_float, take_integer}
use Rattle.syn_literals.specs.TakeLiterals.{take_kind, take_string}
use Rattle.syn_literals.specs.declared.boolean.LitBool.{LitBool}
use Rattle.tok_values.specs.Suffixed.{begins_string}

of_kind : (w : List ℕ → Bool) → Reading (read_literal_of w) (first_if (is_literal_of w))
of_kind w = one (is_literal_of w) (λ d inside span. refl)

kind_told : (w : List ℕ → Bool) (words : List ℕ) (s : State) (r : Result Literal Fault) (t : State)
    → KindParses w words s r t → Takes (take_kind w words) s r t
kind_told w words s r t h =
    read_told (λ v. v) IsLiteral literal_in (λ v ts m. sym (ap literal_in m))
    (first_if (is_literal_of w)) (missing_next words) (refused_at s words) s t (here_told words s)
    (of_kind w) r h

pub string_told : (s : State) (r : Result Literal Fault) (t : State)
    → KindParses begins_string (codes "expected string literal") s r t → Takes take_string s r t
unfolding take_string
string_told s r t h = kind_told begins_string (codes "expected string literal") s r t h

pub integer_told : (s : State) (r : Result Literal Fault) (t : State)
    → KindParses is_integer (codes "expected integer literal") s r t → Takes take_integer s r t
unfolding take_integer
integer_told s r t h = kind_told is_integer (codes "expected integer literal") s r t h

pub float_told : (s : State) (r : Result Literal Fault) (t : State)
    → KindParses is_float (codes "expected floating point literal") s r t → Takes take_float s r t
unfolding take_float
float_told s r t h = kind_told is_float (codes "expected floating point literal") s r t h

bool_fits : (v : LitBool) (ts : List Tree) → IsBool v ts → v ≡ bool_in ts
bool_fits v ts m = grind arith

pub bool_told : (s : State) (r : Result LitBool Fault) (t : State) → BoolParses s r t
    → Takes take_bool s r t
unfolding take_bool
bool_told s r t h =
    let words = codes "expected boolean literal" in
    told-at-once (λ v. v) IsBool bool_in bool_fits (first_if (is_ident_of is_bool))
    (missing_next words)
    (refused_at s words) s t (here_told words s) (of_word is_bool) r h

-- what peeks see
pub string_seen : (p : Place) (b : Bool) → PeeksFor (read_literal_of begins_string) p b
    → b ≡ string_first (erased_ahead p)
unfolding string_first
string_seen p b h = h ∙ found_as _ _ _ (tells (of_kind begins_string) p)

pub integer_seen : (p : Place) (b : Bool) → PeeksFor (read_literal_of is_integer) p b
    → b ≡ integer_first (erased_ahead p)
unfolding integer_first
integer_seen p b h = h ∙ found_as _ _ _ (tells (of_kind is_integer) p)

pub float_seen : (p : Place) (b : Bool) → PeeksFor (read_literal_of is_float) p b
    → b ≡ float_first (erased_ahead p)
unfolding float_first
float_seen p b h = h ∙ found_as _ _ _ (tells (of_kind is_float) p)

pub bool_seen : (p : Place) (b : Bool) → PeeksFor (read_word is_bool) p b
    → b ≡ bool_first (erased_ahead p)
unfolding bool_first
bool_seen p b h = h ∙ found_as _ _ _ (tells (of_word is_bool) p)
