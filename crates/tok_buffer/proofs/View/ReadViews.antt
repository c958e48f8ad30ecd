-- A read, and a skip, depend on the view alone.
use Rattle.std.proofs.Common.{◌≡◌, ◌∙◌, ap, refl, List, Option, Some, None}
use Rattle.std.specs.Prelude.{option_map}
use Rattle.tok_core.specs.Forest.{Tree, Forest}
use Rattle.tok_buffer.specs.EachRead.{Read, First}
use Rattle.tok_buffer.specs.InFront.{with_ahead}
use Rattle.tok_buffer.specs.Place.{Place}
use Rattle.tok_buffer.specs.Reads.{skip}
use Rattle.tok_buffer.specs.View.{erased_ahead, View, view, with_view}
use Rattle.tok_buffer.proofs.View.Erased.{HasScope, in_scope, leads-scope, scope_of, view-scope}
use Rattle.tok_buffer.proofs.View.Moves.{LeadsTo, LeadsAfter, leads, leads-skip}
use Rattle.tok_buffer.proofs.View.Readings.{Reading}
use Rattle.tok_buffer.proofs.View.Tells.{past_first, skip_tells, tells, trees_of, trees-view}

-- a read, and a skip, in a view
abbrev pub in_view : First → View → Option (List Tree × View)
in_view first v = option_map (λ r. (r.0, in_scope (scope_of v) r.1)) (first (trees_of v))

-- a skip in a view
abbrev pub skip_in_view : View → Option View
skip_in_view v = option_map (in_scope (scope_of v)) (past_first (trees_of v))

module _ (g : Forest) where
  read-inside : (v : View) (x : Option (List Tree × Place)) → LeadsTo (HasScope g v) x
      → with_view g x ≡ option_map (λ r. (r.0, in_scope v r.1)) (with_ahead x)
  read-inside v None h = refl
  read-inside v (Some r) h = rw (view-scope g v r.1 h)

  pub view-reading : {read : Read} {first : First} → Reading read first → (p : Place)
      → with_view g (read p) ≡ in_view first (view g p)
  view-reading {read} {first} r p =
      let v = scope_of (view g p) in
      read-inside v (read p) (leads _ _ (leads-scope g v) r p refl)
      ∙ ap (option_map (λ r. (r.0, in_scope v r.1))) (tells r p ∙ ap first (trees-view g p))

  place-inside : (v : View) (x : Option Place) → LeadsAfter (HasScope g v) x
      → option_map (view g) x ≡ option_map (in_scope v) (option_map erased_ahead x)
  place-inside v None h = refl
  place-inside v (Some q) h = rw (view-scope g v q h)

  pub view-skip : (p : Place) → option_map (view g) (skip p) ≡ skip_in_view (view g p)
  view-skip p =
      let v = scope_of (view g p) in
      place-inside v (skip p) (leads-skip _ _ (leads-scope g v) p refl)
      ∙ ap (option_map (in_scope v)) (skip_tells p ∙ ap past_first (trees-view g p))
