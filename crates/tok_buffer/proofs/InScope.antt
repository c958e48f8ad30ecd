-- Places, move by move.
use Rattle.std.proofs.Common.{◌≡◌, inl, inr, ℕ, ◌+◌, ◌≤◌, ◌≢◌, true, false, eqb, List, [], ◌∷◌}
use Rattle.std.proofs.Common.{refl, ap, sym, ◌∙◌, arith, eq-eqb, ne_eqb, eqb-true}
use Rattle.std.proofs.lemmas.Bool.{or_cases, or_right, false≢true, cases_eq}
use Rattle.tok_core.specs.Forest.{leaf, group, Forest, no_trees, tree}
use Rattle.tok_core.specs.Weight.{weight}
use Rattle.tok_buffer.specs.Place.{Enclosing, whole, in_group, Frame, frame, Place, empty_place, at}
use Rattle.tok_buffer.specs.Place.{leave_group, leave_finished, settled, is_at_end}
use Rattle.tok_buffer.specs.Moves.{frame_ahead, move, frames_at, frames_in_scope, is_scope_end}
use Rattle.tok_buffer.specs.Moves.{end_of, place_at, is_settled, in_scope, settled_at, at_end}
use Rattle.tok_buffer.specs.Moves.{advance, invisible_front}
use Rattle.tok_buffer.proofs.Stacks.{frames_next}

pub ends_later : (e s : ℕ) (us : List Frame) → is_scope_end e s us ≡ true → e ≤ s
ends_later e s [] h = let q : e ≡ s = eqb-true e s h in omega arith
ends_later e s (u ∷ us) h =
    elim (or_cases (eqb e s) _ h) [
      | inl q ↦ let r : e ≡ s = eqb-true e s q in omega arith
      | inr q ↦ omega (arith, ends_later (e + 1 + weight (frame_ahead u)) s us q)
    ]

-- what holds of the frames at a count in the scope that ends at s
abbrev pub In : ℕ → ℕ → Frame × List Frame → Type 0
In n s x = is_scope_end (end_of n x.0) s x.1 ≡ true

-- the place with these frames
abbrev pub seen : ℕ → ℕ → ℕ → Frame × List Frame → Place
seen k s n x = at k s n x.0 (frames_in_scope (end_of n x.0) s x.1)

pub ahead-leave_group : (o : Enclosing) (p : Forest) (u : Frame) → frame_ahead (leave_group o p u)
    ≡ frame_ahead u
ahead-leave_group whole p u = refl
ahead-leave_group (in_group d s) p (frame o q g) = refl

left_end : (n : ℕ) (o : Enclosing) (p : Forest) (u : Frame) →
    n + 1 + weight (frame_ahead (leave_group o p u)) ≡ n + 0 + 1 + weight (frame_ahead u)
left_end n o p u = omega (arith, ap weight (ahead-leave_group o p u))

in_step : (n s : ℕ) (l : Frame) (us : List Frame) → In n s (l, us) → n ≢ s →
    In (n + 1) s (move l us)
in_step n s (frame o p (tree (leaf i) f)) us h ne =
    let q : n + 1 + weight f ≡ n + (1 + weight f) = omega arith in rw q h
in_step n s (frame o p (tree (group d c t) f)) us h ne =
    let q : n + 1 + weight c + 1 + weight f ≡ n + (2 + weight c + weight f) = omega arith in
    or_right (eqb (n + 1 + weight c) s) _ (rw q h)
in_step n s (frame o p no_trees) [] h ne =
    absurd (ne (let q : n + 0 ≡ s = eqb-true (n + 0) s h in omega arith))
in_step n s (frame o p no_trees) (u ∷ us) h ne =
    elim (or_cases (eqb (n + 0) s) (is_scope_end (n + 0 + 1 + weight (frame_ahead u)) s us) h) [
      | inl q ↦ absurd (ne (let r : n + 0 ≡ s = eqb-true (n + 0) s q in omega arith))
      | inr q ↦ let e = left_end n o p u in rw e q
    ]

pub seen_step : (k n s : ℕ) (l : Frame) (us : List Frame) → In n s (l, us) → n ≢ s →
    seen k s (n + 1) (move l us) ≡ advance (seen k s n (l, us))
seen_step k n s (frame o p (tree (leaf i) f)) us h ne =
    let q : n + 1 + weight f ≡ n + (1 + weight f) = omega arith in
    rw q
seen_step k n s (frame o p (tree (group d c t) f)) us h ne =
    let q : n + 1 + weight c + 1 + weight f ≡ n + (2 + weight c + weight f) = omega arith in
    let far : n + 1 + weight c ≢ s = λ x. absurd (omega (arith, ends_later _ s us h)) in
    rw (ne_eqb _ _ far, q)
seen_step k n s (frame o p no_trees) [] h ne =
    absurd (ne (let q : n + 0 ≡ s = eqb-true (n + 0) s h in omega arith))
seen_step k n s (frame o p no_trees) (u ∷ us) h ne =
    let l = frame o p no_trees in
    let far : n + 0 ≢ s = λ x. ne (omega arith) in
    rw (left_end n o p u, ne_eqb (n + 0) s far)

-- where nothing is ahead and the scope's end isn't here, an outer frame is seen
pub outer_seen : (n s : ℕ) (o : Enclosing) (p : Forest) (us : List Frame) →
    In n s (frame o p no_trees, us) → n ≢ s → (v : Frame) × (vs : List Frame)
    × (frames_in_scope (end_of n (frame o p no_trees)) s us ≡ v ∷ vs)
outer_seen n s o p [] h ne = absurd (ne (let q : n + 0 ≡ s = eqb-true (n + 0) s h in omega arith))
outer_seen n s o p (u ∷ us) h ne =
    let far : n + 0 ≢ s = λ x. ne (omega arith) in (
      u,
      frames_in_scope (n + 0 + 1 + weight (frame_ahead u)) s us,
      rw (ne_eqb (n + 0) s far),
    )

-- the end of the scope is where nothing is ahead in a settled place
pub end_seen : (n s : ℕ) (l : Frame) (us : List Frame) → In n s (l, us) →
    is_settled l (frames_in_scope (end_of n l) s us) ≡ true → eqb n s ≡ at_end (frame_ahead l)
end_seen n s (frame o p (tree (leaf i) f)) us h q =
    ne_eqb n s (λ x. omega (arith, ends_later _ s us h))
end_seen n s (frame o p (tree (group d c t) f)) us h q =
    ne_eqb n s (λ x. omega (arith, ends_later _ s us h))
end_seen n s (frame o p no_trees) us h q =
    elim (cases_eq n s) [
      | inl e ↦ eq-eqb n s e
      | inr ne ↦
          let w = outer_seen n s o p us h ne in
          absurd (false≢true (rw w.2 at q))
    ]

pub end_is : (k s n : ℕ) (l : Frame) (us : List Frame) → is_at_end (at k s n l us)
    ≡ at_end (frame_ahead l)
end_is k s n (frame o p no_trees) us = refl
end_is k s n (frame o p (tree t f)) us = refl

pub root_settled : (l : Frame) → is_settled l [] ≡ true
root_settled (frame o p no_trees) = refl
root_settled (frame o p (tree t f)) = refl

front_settled : (l : Frame) (us : List Frame) → at_end (frame_ahead l) ≡ false →
    is_settled l us ≡ true
front_settled (frame o p no_trees) us h = absurd (false≢true (sym h))
front_settled (frame o p (tree t f)) us h = refl

settled_same : (k s n : ℕ) (l : Frame) (us : List Frame) → is_settled l us ≡ true →
    leave_finished k s n l us ≡ at k s n l us
settled_same k s n (frame o p no_trees) [] h = refl
settled_same k s n (frame o p no_trees) (u ∷ us) h = absurd (false≢true h)
settled_same k s n (frame o p (tree t f)) [] h = refl
settled_same k s n (frame o p (tree t f)) (u ∷ us) h = refl

-- at the scope's end nothing is ahead, and no outer frame is seen
pub scope_end : (n s : ℕ) (l : Frame) (us : List Frame) → In n s (l, us) → n ≡ s →
    (frame_ahead l ≡ no_trees) × (frames_in_scope (end_of n l) s us ≡ [])
scope_end n s (frame o p (tree (leaf i) f)) us h e = absurd (omega (arith, ends_later _ s us h, e))
scope_end n s (frame o p (tree (group d c t) f)) us h e =
    absurd (omega (arith, ends_later _ s us h, e))
scope_end n s (frame o p no_trees) [] h e = (refl, refl)
scope_end n s (frame o p no_trees) (u ∷ us) h e = (refl, rw (eq-eqb (n + 0) s (omega (arith, e))))

leave_finished_end : (k n s : ℕ) (l : Frame) (us : List Frame) → In n s (l, us) → n ≢ s →
    at_end (frame_ahead l) ≡ true → settled (advance (seen k s n (l, us)))
    ≡ settled (seen k s n (l, us))
leave_finished_end k n s (frame o p (tree t f)) us h ne q = absurd (false≢true q)
leave_finished_end k n s (frame o p no_trees) us h ne q = rw (outer_seen n s o p us h ne).2 refl

-- one move within a scope
pub place_step : (k n s : ℕ) (F : Forest) → in_scope F n s ≡ true → n ≢ s →
    (in_scope F (n + 1) s ≡ true) × (place_at k F (n + 1) s ≡ advance (place_at k F n s))
place_step k n s F h ne =
    let x = frames_at F n in (
      rw (frames_next F n) (in_step n s x.0 x.1 h ne),
      rw (frames_next F n) (seen_step k n s x.0 x.1 h ne),
    )

-- an end that isn't the scope's is left
pub leave_finished_step : (k n s : ℕ) (F : Forest) → in_scope F n s ≡ true → n ≢ s →
    at_end (frame_ahead (frames_at F n).0) ≡ true → (in_scope F (n + 1) s ≡ true)
    × (settled (place_at k F (n + 1) s) ≡ settled (place_at k F n s))
leave_finished_step k n s F h ne q =
    let x = frames_at F n in
    let t = place_step k n s F h ne in
    (t.0, ap settled t.1 ∙ leave_finished_end k n s x.0 x.1 h ne q)

pub before_scope : (F : Forest) (n s : ℕ) → in_scope F n s ≡ true → n ≤ s
before_scope F n s h = let x = frames_at F n in omega (arith, ends_later (end_of n x.0) s x.1 h)

pub place_settled : (k n s : ℕ) (F : Forest) → settled_at F n s ≡ true →
    settled (place_at k F n s) ≡ place_at k F n s
place_settled k n s F h =
    let x = frames_at F n in settled_same k s n x.0 (frames_in_scope (end_of n x.0) s x.1) h

pub settled_front : (F : Forest) (n s : ℕ) → at_end (frame_ahead (frames_at F n).0) ≡ false →
    settled_at F n s ≡ true
settled_front F n s h = front_settled (frames_at F n).0
    (frames_in_scope (end_of n (frames_at F n).0) s (frames_at F n).1) h

pub settled_scope : (F : Forest) (n s : ℕ) → in_scope F n s ≡ true → n ≡ s → settled_at F n s ≡ true
settled_scope F n s h e =
    let x = frames_at F n in
    rw (scope_end n s x.0 x.1 h e).1 (root_settled x.0)

pub not_at_scope : (F : Forest) (n s : ℕ) → in_scope F n s ≡ true → settled_at F n s ≡ true →
    at_end (frame_ahead (frames_at F n).0) ≡ false → n ≢ s
not_at_scope F n s h q f =
    let x = frames_at F n in
    λ e. let same = eq-eqb n s e in cc (end_seen n s x.0 x.1 h q)

-- the count at a place
abbrev pub count_of : Place → ℕ
count_of empty_place = 0
count_of (at k s n l us) = n

-- the count at the end of a place's scope
abbrev pub scope_of : Place → ℕ
scope_of empty_place = 0
scope_of (at k s n l us) = s

leave_finished-count : (k s n : ℕ) (l : Frame) (us : List Frame)
    → (n ≤ count_of (leave_finished k s n l us))
    × (scope_of (leave_finished k s n l us) ≡ s)
leave_finished-count k s n l [] = (omega arith, refl)
leave_finished-count k s n (frame o p no_trees) (u ∷ us) =
    let r = leave_finished-count k s (n + 1) (leave_group o p u) us in (omega (arith, r.0), r.1)
leave_finished-count k s n (frame o p (tree t f)) (u ∷ us) = (omega arith, refl)

-- what a step of a cursor leaves, in numbers
pub later_in_scope : (k s n : ℕ) (l : Frame) (us : List Frame) (q : Place) →
    q ≡ settled (advance (at k s n l us)) → (n + 1 ≤ count_of q) × (scope_of q ≡ s)
later_in_scope k s n l us q e =
    let r = leave_finished-count k s (n + 1) (move l us).0 (move l us).1 in
    (omega (arith, ap count_of e, r.0), ap scope_of e ∙ r.1)

pub invisible_ahead : (f : Forest) → invisible_front f ≡ true → at_end f ≡ false
invisible_ahead no_trees h = absurd (false≢true h)
invisible_ahead (tree t f) h = refl
