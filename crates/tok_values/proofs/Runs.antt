-- Characters that mean themselves.
use Rattle.std.proofs.Common.{◌≡◌, ℕ, ◌<◌, List, [], ◌∷◌, ◌++◌, Some, Bool, true, false, arith}
use Rattle.std.proofs.Common.{append_assoc}
use Rattle.std.specs.Prelude.{◌==◌, encode_utf8_all}
use Rattle.std.specs.List.{list_all}
use Rattle.std.proofs.lemmas.Bool.{and_parts, not-true, or_parts}
use Rattle.std.proofs.lemmas.Bool.Decides.{nat_tests}
use Rattle.std.proofs.lemmas.Str.{encodes-IsAscii}
use Rattle.tok_lexical.specs.Pieces.{Skips}
use Rattle.tok_lexical.specs.Scans.{IsAsciiTest}
use Rattle.tok_values.specs.Private.Plain.{is_plain}
use Rattle.tok_values.specs.Strings.{Means, nothing, more, unit}
use Rattle.tok_values.proofs.Passing.{all_ascii}
use Rattle.tok_values.proofs.Quoted.{plain_unit}
use Rattle.tok_values.proofs.Units.{unit_more}

-- beyond ASCII all of a text passes, and nothing of bytes
pub plain_ascii_test : (wide : Bool) → IsAsciiTest (is_plain wide)
plain_ascii_test true x high = grind (arith, nat_tests)
plain_ascii_test false x high = grind (arith, nat_tests)

plain_low : (c : ℕ) → is_plain true c ≡ true → c < 128
plain_low c p = grind (arith, nat_tests)

plain_one : (wide : Bool) (c : ℕ) (rest : List ℕ) → is_plain wide c ≡ true →
    unit wide (c ∷ rest) ≡ Some (c ∷ [], rest)
plain_one wide c rest p =
    let slash = or_parts (c == 92) _ (not-true _ p) in
    let quote = or_parts (c == 34) _ slash.1 in
    let return = or_parts (c == 13) _ quote.1 in
    plain_unit wide c rest slash.0 quote.0 return.0 return.1

plain_means : (wide : Bool) (front rest : List ℕ) → list_all (is_plain wide) front ≡ true →
    Means wide (front ++ rest) rest front
plain_means wide [] rest p = nothing rest
plain_means wide (c ∷ front) rest p =
    let both = and_parts (is_plain wide c) (list_all (is_plain wide) front) p in
    more (c ∷ (front ++ rest)) (front ++ rest) rest (c ∷ []) front
    (plain_one wide c (front ++ rest) both.0) (plain_means wide front rest both.1)

-- a run of such characters means itself
pub run_means : (wide : Bool) (text front rest : List ℕ) → Skips (is_plain wide) text front rest →
    Means wide text rest front
run_means wide text front rest s = rw s.cut (plain_means wide front rest s.pass)

-- one reading after another
joined : (wide : Bool) (text middle rest xs ys : List ℕ) → Means wide text middle xs →
    Means wide middle rest ys → Means wide text rest (xs ++ ys)
joined wide _ _ rest _ ys (nothing text) n = n
joined wide _ middle rest _ ys (more text after r front cs e m) n =
    rw append_assoc
    (more text after rest front (cs ++ ys) e (joined wide after middle rest cs ys m n))

-- a run after units
run_more : (wide : Bool) (text middle rest characters front : List ℕ) →
    Means wide text middle characters → Skips (is_plain wide) middle front rest →
    Means wide text rest (characters ++ front)
run_more wide text middle rest characters front m s =
    joined wide text middle rest characters front m (run_means wide middle front rest s)

-- so many characters are read and appended, in UTF-8 for a string and as they are for bytes
abbrev pub Pushed : Bool → (List ℕ → List ℕ) → (text rest old new : List ℕ) → Type 0
Pushed wide written text rest old new =
    (characters : List ℕ) × Means wide text rest characters × (new ≡ old ++ written characters)

-- one unit or one run more, in `push_text` and in `push_bytes`
module _ (wide : Bool) (written : List ℕ → List ℕ)
    (joins : (xs ys : List ℕ) → written (xs ++ ys) ≡ written xs ++ written ys)
    (text rest after old now new : List ℕ) (front : List ℕ)
    (so_far : Pushed wide written text rest old now) (n : new ≡ now ++ written front) where
  more_written : new ≡ old ++ written (so_far.0 ++ front)
  more_written = rw (n, so_far.2, joins, append_assoc)

  pub unit_pushed : unit wide rest ≡ Some (front, after) →
      Pushed wide written text after old new
  unit_pushed e =
      (so_far.0 ++ front, unit_more wide text rest after so_far.0 front so_far.1 e, more_written)

  pub run_pushed : Skips (is_plain wide) rest front after → Pushed wide written text after old new
  run_pushed skips =
      (so_far.0 ++ front, run_more wide text rest after so_far.0 front so_far.1 skips, more_written)

-- the bytes of a run of ASCII are its characters
pub run_bytes : (front : List ℕ) → list_all (is_plain true) front ≡ true →
    encode_utf8_all front ≡ front
run_bytes front p = encodes-IsAscii front (all_ascii (is_plain true) plain_low front p)
