-- Equality of places is an equivalence, and their order a partial order that is `Equal` if
-- they are equal.
use Rattle.std.specs.Prelude.{◌≡◌, Bool, true, false, if◌then◌else◌, ◌==◌, ◌&&◌, Option, Some, None, refl}
use Rattle.std.specs.Prelude.{unwrap_or, is_some}
use Rattle.std.proofs.Common.{ap, sym, ◌∙◌, eqb-true}
use Rattle.std.proofs.lemmas.Bool.{and_from, and_parts, false≢true}
use Rattle.std.specs.Bool.{Decides}
use Rattle.std.specs.declared.cmp.Ordering.{Ordering}
use Rattle.std.specs.declared.cmp.Ordering.TheVariants.{Less, Equal}
use Rattle.std.specs.Cmp.{IsEquivalence, IsPartialOrder, Equal-is, nat_eq_equiv, nat_cmp_total}
use Rattle.std.specs.Cmp.{unsigned_ties}
use Rattle.std.specs.Ordering.{nat_cmp, ordering_reverse, is_eq, is_lt}
use Rattle.std.specs.Option.{option_map}
use Rattle.tok_buffer.specs.Order.{equal, order}
use Rattle.tok_buffer.specs.Place.{Place, empty_place, at}

-- an order that is asked for within one buffer only
abbrev within : Bool → Ordering → Option Ordering
within b r = if b then Some r else None

-- two orders are equal if they are equal under `Some`
inside : (r s : Ordering) → Some r ≡ Some s → r ≡ s
inside r s e = ap (λ o. unwrap_or o Equal) e

-- `None` is no order, so anything follows
nothing : {A : Type 0} (r : Ordering) → None ≡ Some r → A
nothing r e = absurd (false≢true (ap is_some e))

-- the reverse of an order within a buffer is the reverse order within it
reversed : (b : Bool) (r s : Ordering) → r ≡ ordering_reverse s →
    within b r ≡ option_map ordering_reverse (within b s)
reversed true r s e = ap Some e
reversed false r s e = refl

-- a place that is less is in the same buffer, and less there
less : (b : Bool) (r : Ordering) → within b r ≡ Some Less → (b ≡ true) × (r ≡ Less)
less true r e = (refl, inside r Less e)
less false r e = nothing Less e

-- two places of one buffer are equal if and only if their order is `Equal`
tied : (b e : Bool) (r : Ordering) → e ≡ is_eq r → Decides (b && e) (within b r ≡ Some Equal)
tied true e r q =
    (λ h. ap Some ((Equal-is r).0 (sym q ∙ h)), λ h. q ∙ (Equal-is r).1 (inside r Equal h))
tied false e r q = (λ h. absurd (false≢true h), λ h. nothing Equal h)

-- equality of places is an equivalence
pub equal_equiv : IsEquivalence equal
equal_equiv = record { refl = itself; symm = turned; congr = alike } where
  itself : (x : Place) → equal x x ≡ true
  itself empty_place = refl
  itself (at n s c l ls) = and_from (n == n) (c == c) (nat_eq_equiv.refl n) (nat_eq_equiv.refl c)

  turned : (x y : Place) → equal x y ≡ equal y x
  turned empty_place empty_place = refl
  turned empty_place (at m t d k ks) = refl
  turned (at n s c l ls) empty_place = refl
  turned (at n s c l ls) (at m t d k ks) =
      ap (λ b. b && (c == d)) (nat_eq_equiv.symm n m)
      ∙ ap (λ b. (m == n) && b) (nat_eq_equiv.symm c d)

  alike : (x y z : Place) → equal x y ≡ true → equal x z ≡ equal y z
  alike empty_place empty_place z h = refl
  alike empty_place (at m t d k ks) z h = absurd (false≢true h)
  alike (at n s c l ls) empty_place z h = absurd (false≢true h)
  alike (at n s c l ls) (at m t d k ks) empty_place h = refl
  alike (at n s c l ls) (at m t d k ks) (at o u e j js) h =
      let p = and_parts (n == m) (c == d) h in
      ap (λ b. b && (c == e)) (nat_eq_equiv.congr n m o p.0)
      ∙ ap (λ b. (m == o) && b) (nat_eq_equiv.congr c d e p.1)

-- the order of places is a partial one, and agrees with equality
pub order_partial : IsPartialOrder equal order
order_partial = record { antisymm = turned; trans = chain; matches_eq = ties; congr = alike } where
  turned : (x y : Place) → order x y ≡ option_map ordering_reverse (order y x)
  turned empty_place empty_place = refl
  turned empty_place (at m t d k ks) = refl
  turned (at n s c l ls) empty_place = refl
  turned (at n s c l ls) (at m t d k ks) =
      ap (λ b. within b (nat_cmp c d)) (nat_eq_equiv.symm n m)
      ∙ reversed (m == n) (nat_cmp c d) (nat_cmp d c) (nat_cmp_total.antisymm c d)

  chain : (x y z : Place) → order x y ≡ Some Less → order y z ≡ Some Less → order x z ≡ Some Less
  chain empty_place empty_place z h k = absurd (false≢true (ap is_lt (inside Equal Less h)))
  chain empty_place (at m t d w ws) z h k = nothing Less h
  chain (at n s c l ls) empty_place z h k = nothing Less h
  chain (at n s c l ls) (at m t d w ws) empty_place h k = nothing Less k
  chain (at n s c l ls) (at m t d w ws) (at o u e j js) h k =
      let p = less (n == m) (nat_cmp c d) h in
      let q = less (m == o) (nat_cmp d e) k in
      ap (λ b. within b (nat_cmp c e)) (nat_eq_equiv.congr n m o p.0 ∙ q.0)
      ∙ ap Some (nat_cmp_total.trans c d e p.1 q.1)

  ties : (x y : Place) → Decides (equal x y) (order x y ≡ Some Equal)
  ties empty_place empty_place = (λ h. refl, λ h. refl)
  ties empty_place (at m t d k ks) = (λ h. absurd (false≢true h), λ h. nothing Equal h)
  ties (at n s c l ls) empty_place = (λ h. absurd (false≢true h), λ h. nothing Equal h)
  ties (at n s c l ls) (at m t d k ks) = tied (n == m) (c == d) (nat_cmp c d) (unsigned_ties c d)

  alike : (x y z : Place) → equal x y ≡ true → order x z ≡ order y z
  alike empty_place empty_place z h = refl
  alike empty_place (at m t d k ks) z h = absurd (false≢true h)
  alike (at n s c l ls) empty_place z h = absurd (false≢true h)
  alike (at n s c l ls) (at m t d k ks) empty_place h = refl
  alike (at n s c l ls) (at m t d k ks) (at o u e j js) h =
      let p = and_parts (n == m) (c == d) h in
      ap (λ b. within b (nat_cmp c e)) (nat_eq_equiv.congr n m o p.0)
      ∙ ap (λ x. within (m == o) (nat_cmp x e)) (eqb-true c d p.1)
