-- Each read leaves fewer trees ahead.
use Rattle.std.proofs.Common.{◌≡◌, ◌+◌, ◌≤◌, Bool, List, [], ◌∷◌}
use Rattle.std.proofs.Common.{◌++◌, length, Option, Some, None, arith}
use Rattle.std.specs.Prelude.{IfSome}
use Rattle.tok_core.specs.Forest.{Tree, Forest, no_trees, tree}
use Rattle.tok_buffer.specs.Ahead.{marked_ahead}
use Rattle.tok_buffer.specs.EachRead.{Read, First, and_first, first_if}
use Rattle.tok_buffer.specs.InFront.{with_ahead}
use Rattle.tok_buffer.specs.Place.{Place}
use Rattle.tok_buffer.specs.View.{erased_ahead}
use Rattle.tok_buffer.proofs.View.Tells.{tells}
use Rattle.tok_buffer.proofs.View.Spans.{tree_count, length_ahead}
use Rattle.tok_buffer.proofs.View.Readings.{Reading, never, one, more}
use Rattle.std.proofs.lemmas.Bool.{cond_both}

-- fewer trees are left than there were
abbrev Shortens : Forest → Option (List Tree × Forest) → Type 0
Shortens f r = IfSome r (λ x. tree_count x.1 + 1 ≤ tree_count f)

shortens-if : (wanted : Tree → Bool) (f : Forest) → Shortens f (first_if wanted f)
shortens-if wanted no_trees = tt
shortens-if wanted (tree t f) =
    cond_both (wanted t) (Some (t ∷ [], f)) None (Shortens (tree t f)) (λ _. omega arith) (λ _. tt)

shortens-then : (f : Forest) (r : Option (List Tree × Forest)) (h : First) → Shortens f r
    → ((g : Forest) → Shortens g (h g)) → Shortens f (and_first r h)
shortens-then f None h a b = tt
shortens-then f (Some r) h a b = go (h r.1) (b r.1) where
  go : (q : Option (List Tree × Forest)) → Shortens r.1 q
      → Shortens f (elim q [ Some x ↦ Some (r.0 ++ x.0, x.1) | None ↦ None ])
  go None c = tt
  go (Some x) c = omega (arith, a, c)

shortens : {read : Read} {first : First} → Reading read first → (f : Forest) → Shortens f (first f)
shortens never f = tt
shortens (one wanted leaves) f = shortens-if wanted f
shortens (more wanted leaves g h r) f =
    shortens-then f (first_if wanted f) h (shortens-if wanted f) (shortens r)

-- fewer trees are ahead after a read
abbrev pub LeavesFewer : Place → Option (List Tree × Place) → Type 0
LeavesFewer p r = IfSome r (λ x. length (marked_ahead x.1) + 1 ≤ length (marked_ahead p))

pub fewer : {read : Read} {first : First} → Reading read first → (p : Place)
    → LeavesFewer p (read p)
fewer {read} {first} r p = go (read p) (tells r p) where
  go : (x : Option (List Tree × Place)) → with_ahead x ≡ first (erased_ahead p) → LeavesFewer p x
  go None e = tt
  go (Some x) e =
      let s = rw (← e) at (shortens r (erased_ahead p)) in
      omega (arith, s, length_ahead p, length_ahead x.1)
