-- Units, one after another.
use Rattle.std.proofs.Common.{◌≡◌, ◌∙◌, ℕ, List, [], ◌++◌, Option, Some, None, Bool, refl, sym}
use Rattle.std.proofs.Common.{append_assoc}
use Rattle.std.proofs.lemmas.List.{append-nil}
use Rattle.tok_values.specs.Strings.{Means, MeansBy, nothing, more, unit}
use Rattle.std.proofs.lemmas.Option.{some_pair_parts}

module _ (unit_of : List ℕ → Option (List ℕ × List ℕ)) where
  -- one unit more
  pub more_by : (text rest after characters front : List ℕ) → MeansBy unit_of text rest characters
      → unit_of rest ≡ Some (front, after) → MeansBy unit_of text after (characters ++ front)
  more_by text rest after characters front (nothing t) e =
      let one : MeansBy unit_of t after (front ++ []) =
      more t after after front [] e (nothing after) in
      rw append-nil at one
  more_by text rest after characters front (more t middle r first cs h m) e =
      rw append_assoc
      (more t middle after first (cs ++ front) h (more_by middle r after cs front m e))

  -- two readings that both stop are one
  pub read_once : (text a b v w : List ℕ) → MeansBy unit_of text a v → MeansBy unit_of text b w
      → unit_of a ≡ None → unit_of b ≡ None → (a ≡ b) × (v ≡ w)
  read_once text a b v w (nothing t) (nothing u) p q = (refl, refl)
  read_once text a b v w (nothing t) (more u middle r first cs h m) p q = absurd (cc)
  read_once text a b v w (more t middle r first cs h m) (nothing u) p q = absurd (cc)
  read_once text a b v w (more t middle r first cs h m) (more u middle2 r2 first2 cs2 h2 m2) p q =
      let (fronts, same) = some_pair_parts first first2 middle middle2 (sym h ∙ h2) in
      let e = read_once middle a b cs cs2 m (rw (← same) at m2) p q in (e.0, cc (e.1))

-- one unit more of a string or a byte string
pub unit_more : (wide : Bool) (text rest after characters front : List ℕ)
    → Means wide text rest characters
    → unit wide rest ≡ Some (front, after) → Means wide text after (characters ++ front)
unit_more wide = more_by (unit wide)
