-- What is left at a cursor is as far as its scope's end is off.
use Rattle.std.proofs.Common.{◌≡◌, inl, inr, ℕ, ◌+◌, ◌≤◌, ◌<◌, ◌≢◌, true, false, List, [], ◌∷◌}
use Rattle.std.proofs.Common.{sym, ◌∙◌, arith, eqb-true, Option, Some, None}
use Rattle.std.proofs.lemmas.Bool.{or_cases, cond_both, false≢true}
use Rattle.std.specs.Prelude.{◌==◌, ◌&&◌, ⊤}
use Rattle.tok_core.specs.Weight.{weight}
use Rattle.tok_buffer.specs.Cursors.{spot_place, place_of, CursorsLoseNone, CursorsReachScope}
use Rattle.tok_buffer.specs.Moves.{frames_at, frames_in_scope, is_scope_end, end_of}
use Rattle.tok_buffer.specs.Order.{equal}
use Rattle.tok_buffer.specs.Place.{Frame, frame, Place, empty_place, at}
use Rattle.tok_buffer.specs.Progress.{remaining, remaining_around, LosesNone, ReachesScope}
use Rattle.tok_buffer.specs.declared.cursor.Cursor.{Cursor}
use Rattle.tok_buffer.specs.declared.spot.Spot.{Spot}
use Rattle.tok_buffer.proofs.Onwards.{along}

-- the count and what is ahead add up to the scope's end
abbrev pub IsCounted : Place → Type 0
IsCounted empty_place = ⊤
IsCounted (at n s c (frame o p a) ls) = c + weight a + remaining_around ls ≡ s

measured_in_scope : (e s : ℕ) (us : List Frame) → is_scope_end e s us ≡ true →
    e + remaining_around (frames_in_scope e s us) ≡ s
measured_in_scope e s [] h = let q : e ≡ s = eqb-true e s h in omega arith
measured_in_scope e s (frame o p f ∷ us) h =
    cond_both (e == s) [] (frame o p f ∷ frames_in_scope (e + 1 + weight f) s us)
    (λ ls. e + remaining_around ls ≡ s)
    (λ q. let r : e ≡ s = eqb-true e s q in omega arith)
    (λ q. elim (or_cases (e == s) _ h) [
      | inl k ↦ absurd (false≢true (sym q ∙ k))
      | inr k ↦ omega (arith, measured_in_scope (e + 1 + weight f) s us k)
    ])

measured_at : (n c s : ℕ) (l : Frame) (us : List Frame) → is_scope_end (end_of c l) s us ≡ true →
    IsCounted (at n s c l (frames_in_scope (end_of c l) s us))
measured_at n c s (frame o p f) us h = omega (arith, measured_in_scope (c + weight f) s us h)

pub spot_measured : (spot : Option Spot) →
    IsCounted (elim spot [ None ↦ empty_place | Some s ↦ spot_place s ])
spot_measured None = tt
spot_measured (Some s) = measured_at s.buffer.now.number s.position s.scope
    (frames_at s.buffer.now.forest s.position).0 (frames_at s.buffer.now.forest s.position).1
    s.within

cursor_measured : (c : Cursor) → IsCounted (place_of c)
cursor_measured c = spot_measured c.spot

none_lost : (p q : Place) → IsCounted p → IsCounted q → LosesNone p q
none_lost p empty_place u v h = none_there p
  where
    none_there : (p : Place) → (0 ≤ remaining p) × (equal p empty_place ≡ false → 0 < remaining p)
    none_there empty_place = (omega arith, λ e. absurd (false≢true (sym e)))
    none_there (at n s c (frame o f a) ls) = (omega arith, λ e. omega arith)
none_lost empty_place (at m t d k ks) u v (inl h) = absurd (false≢true h.0)
none_lost empty_place (at m t d k ks) u v (inr h) = cc
none_lost (at n s c (frame o p f) ls) (at m t d (frame a b g) ks) u v h =
    let w = along n s c m t d (frame o p f) (frame a b g) ls ks h in (
      omega (arith, u, v, w.scopes, w.counts),
      λ e.
          let other : c ≢ d = λ same. false≢true (sym e ∙ both n m c d w.numbers same) in
          omega (arith, u, v, w.scopes, w.counts, other),
    )
  where
    both : (n m c d : ℕ) → n ≡ m → c ≡ d → (n == m && c == d) ≡ true
    both n m c d x y = grind arith

pub cursors_lose_none : CursorsLoseNone
cursors_lose_none from to =
    none_lost (place_of from) (place_of to) (cursor_measured from) (cursor_measured to)

reaches : (p : Place) → IsCounted p → ReachesScope p
reaches empty_place h = tt
reaches (at n s c (frame o p a) ls) h = omega (arith, h)

pub cursors_reach_scope : CursorsReachScope
cursors_reach_scope c = reaches (place_of c) (cursor_measured c)
