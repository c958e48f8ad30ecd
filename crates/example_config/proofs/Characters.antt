-- The value of a string literal is UTF-8, if its text is.
use Rattle.std.proofs.Common.{◌≡◌, ◌*◌, ◌+◌, ℕ, List, [], ◌∷◌, ◌++◌, refl, sym, subst, arith}
use Rattle.std.proofs.Common.{Option, None, Some}
use Rattle.std.specs.Prelude.{true, false, ◌==◌}
use Rattle.std.specs.Char.{digit_value, is_digit}
use Rattle.std.specs.Str.{IsUtf8}
use Rattle.std.proofs.lemmas.Bool.{and_from, and_parts, ltb-true}
use lib.Utf8.{scalar, scalars}
use Rattle.std.proofs.Math.Utf8.{low_scalar}
use Rattle.tok_lexical.specs.Pieces.{after_first, from_first}
use Rattle.tok_values.specs.Escapes.{and_rest, code, escape, hex, named_char, simple}
use Rattle.tok_values.specs.Strings.{Means, after_return, alone, is_blank, more, nothing}
use Rattle.tok_values.specs.Strings.{unit, without_blanks}
use Rattle.tok_values.specs.Values.{StringsHaveOneValue, string_value}
use Rattle.example_config.proofs.Choices.{either, given}

-- what is found is characters, before characters
abbrev AreCharacters : Option (List ℕ × List ℕ) → Type 0
AreCharacters None = Unit {0}
AreCharacters (Some p) = (scalars p.0 ≡ true) × (scalars p.1 ≡ true)

abbrev IsCharacter : Option (ℕ × List ℕ) → Type 0
IsCharacter None = Unit {0}
IsCharacter (Some p) = (scalar p.0 ≡ true) × (scalars p.1 ≡ true)

abbrev AreScalars : List ℕ → Type 0
AreScalars text = scalars text ≡ true

first_of : (c : ℕ) (text : List ℕ) → scalars (c ∷ text) ≡ true → scalar c ≡ true
first_of c text h = (and_parts (scalar c) (scalars text) h).0

rest_of : (c : ℕ) (text : List ℕ) → scalars (c ∷ text) ≡ true → scalars text ≡ true
rest_of c text h = (and_parts (scalar c) (scalars text) h).1

after_are : (text : List ℕ) → scalars text ≡ true → scalars (after_first text) ≡ true
after_are text h = grind (arith, rest_of)

from_are : (k : ℕ) (text : List ℕ) → scalars text ≡ true → scalars (from_first k text) ≡ true
from_are k [] h = refl
from_are k (c ∷ text) h =
    either AreScalars (c == k) _ _ h (from_are k text (rest_of c text h))

blanks_are : (text : List ℕ) → scalars text ≡ true → scalars (without_blanks text) ≡ true
blanks_are [] h = refl
blanks_are (c ∷ text) h =
    either AreScalars (is_blank c) _ _ (blanks_are text (rest_of c text h)) h

-- what an escape names
byte_is : (high low : ℕ) → (is_digit high 8 ≡ true) × (is_digit low 16 ≡ true)
    → scalar (digit_value high * 16 + digit_value low) ≡ true
byte_is high low h = grind (arith, ltb-true, low_scalar)

hex_is : (text : List ℕ) → scalars text ≡ true → IsCharacter (hex 8 text)
hex_is [] h = tt
hex_is (high ∷ []) h = tt
hex_is (high ∷ (low ∷ rest)) h = grind (arith, given, byte_is, and_parts, rest_of)

rest_is : (o : Option ℕ) (rest : List ℕ) → ((c : ℕ) → o ≡ Some c → scalar c ≡ true)
    → scalars rest ≡ true → IsCharacter (and_rest o rest)
rest_is o rest h k = grind arith

abbrev Names : Option ℕ → Type 0
Names o = (c : ℕ) → o ≡ Some c → scalar c ≡ true

one_is : (n : ℕ) → scalar n ≡ true → Names (Some n)
one_is n h c e = grind arith

none_is : Names None
none_is c e = absurd (cc)

named_is : (digits : List ℕ) → Names (named_char digits)
named_is digits = grind (arith, either, given, one_is, none_is)

simple_is : (c : ℕ) → scalar c ≡ true → Names (simple c)
simple_is c h = grind (arith, either, one_is, none_is)

code_is : (text : List ℕ) → scalars text ≡ true → IsCharacter (code text)
code_is text h = grind (arith, either, rest_is, named_is, after_are, from_are, rest_of)

escape_is : (text : List ℕ) → scalars text ≡ true → IsCharacter (escape false text)
escape_is text h = grind (arith, rest_of, either, hex_is, code_is, rest_is, simple_is, first_of)

alone_are : (o : Option (ℕ × List ℕ)) → IsCharacter o → AreCharacters (alone o)
alone_are o h = grind (arith, and_from)

feed_are : (text : List ℕ) → scalars text ≡ true → AreCharacters (after_return text)
feed_are text h = grind (arith, either, after_are)

-- a unit means characters, and the rest is characters
unit_are : (text : List ℕ) → scalars text ≡ true → AreCharacters (unit false text)
unit_are text h =
    grind (arith, rest_of, either, blanks_are, alone_are, escape_is, feed_are, and_from, first_of)

joined_are : (xs ys : List ℕ) → scalars xs ≡ true → scalars ys ≡ true → scalars (xs ++ ys) ≡ true
joined_are [] ys h k = k
joined_are (x ∷ xs) ys h k =
    grind (arith, and_from, first_of, rest_of, joined_are xs ys (rest_of x xs h) k)

meant_are : {text rest characters : List ℕ} → scalars text ≡ true
    → Means false text rest characters → scalars characters ≡ true
meant_are h (nothing text) = refl
meant_are h (more text after rest front characters e m) =
    let u = subst AreCharacters e (unit_are text h) in
    joined_are front characters u.0 (meant_are u.1 m)

pub value_utf8 : StringsHaveOneValue → (text t : List ℕ) → scalars text ≡ true
    → string_value text ≡ Some t → IsUtf8 t
value_utf8 one text t h e =
    let (characters, (inner, quote, (rest, means, end)), is) = (one text t).1 e in
    (characters, (meant_are (rest_of 34 inner (subst AreScalars quote h)) means, sym is))
