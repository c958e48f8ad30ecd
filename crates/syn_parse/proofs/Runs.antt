-- The trees of a run, one after another.
use Rattle.std.proofs.Common.{◌≡◌, ◌∙◌, sym, ap, refl, arith, ◌<◌, ◌≤◌, List, [], ◌∷◌}
use Rattle.std.proofs.Common.{Option, Some, None, Ok}
use Rattle.std.proofs.lemmas.Option.{some_pair_parts}
use Rattle.tok_core.specs.Erase.{erase}
use Rattle.tok_core.specs.Forest.{Tree, Forest, no_trees, tree, concat}
use Rattle.tok_core.proofs.Facts.{concat-none, joined_assoc}
use Rattle.tok_buffer.specs.Between.{Follows, between, from_here}
use Rattle.tok_buffer.specs.Buffer.{Laid}
use Rattle.tok_buffer.specs.Descent.{descend}
use Rattle.tok_buffer.specs.EachRead.{first_if}
use Rattle.tok_buffer.specs.Place.{Place}
use Rattle.tok_buffer.specs.Progress.{remaining}
use Rattle.tok_buffer.specs.Reached.{Reached, down}
use Rattle.tok_buffer.specs.Reads.{place_after}
use Rattle.tok_core.specs.Kinds.{any_tree}
use Rattle.tok_buffer.specs.Trees.{erased_read, erased_tree, read_visible}
use Rattle.tok_buffer.specs.View.{erased_ahead}
use Rattle.tok_buffer.proofs.Between.{between_next, between_same}
use Rattle.tok_buffer.proofs.Followed.{tree_follows, tree_read}
use Rattle.tok_buffer.proofs.Onwards.{keeps_scope, visible_goes}
use Rattle.tok_buffer.proofs.ScopeEnds.{visible_erased, visible_tells}
use Rattle.tok_buffer.proofs.View.Laws.{reached_leads_on}
use Rattle.tok_buffer.proofs.View.Moves.{leads-take}
use Rattle.syn_parse.specs.Positions.{scope_trees}
use Rattle.syn_parse.specs.Runs.{PassesVisible, none_passed, one_more, passing}
use Rattle.syn_parse.specs.Runs.{take_run_with_state}
use Rattle.syn_parse.specs.State.{State, moved}
use Rattle.syn_parse.specs.Takes.{TakesAs}
use Rattle.syn_parse.specs.TreesAhead.{scope_of}
use Rattle.syn_parse.proofs.Positions.{visible_kept}
use Rattle.syn_parse.proofs.Scopes.{one_scope}

same-head : (t u : Tree) → t ∷ [] ≡ u ∷ [] → t ≡ u
same-head t u e = cc

none-read : (x : Option (List Tree × Place)) → place_after x ≡ None → x ≡ None
none-read x e = grind arith

-- these trees come first
abbrev first_of : {S : Type 0} → Forest → Forest × Forest × S → Forest × Forest × S
first_of f r = (concat f r.0, r.1, r.2)

module _ {S : Type 0} (step : S → Forest → Option S) where
  -- what is ahead of the start is the trees up to here, and then what is ahead now
  pub record Passed (p : Place) (s : S) (q : Place) (r : S) : Type 0 where
    trees : passing step s (erased_ahead p)
        ≡ first_of (erase (between p q)) (passing step r (erased_ahead q))
    follows : Follows p q
    pub passes : PassesVisible p q
    scope : scope_of q ≡ scope_of p
    less : remaining q ≤ remaining p
    reached : (b : Laid) → Reached b p → Reached b q
    kept : scope_trees q ≡ scope_trees p

  pub none-passed : (p : Place) (s : S) (q : Place) → q ≡ p → Passed p s q s
  none-passed p s q h =
      rw h (record {
        trees = rw between_same refl;
        follows = from_here;
        passes = none_passed;
        scope = refl;
        less = omega arith;
        reached = λ b i. i;
        kept = refl;
      })

  -- the first tree of a run, and what is ahead after it
  first-tree : (t u : Tree) (q : Place) (f : Forest)
      → erased_read (Some (t ∷ [], q)) ≡ first_if any_tree f → erased_tree t ≡ u
      → f ≡ tree u (erased_ahead q)
  first-tree t u q f e k = grind (arith, some_pair_parts, same-head)

  gone : (u : Tree) (g : Forest) (s r : S) → step s (tree u g) ≡ Some r
      → passing step s (tree u g) ≡ first_of (tree u no_trees) (passing step r g)
  gone u g s r e = rw e refl

  first-first : (f g : Forest) (r : Forest × Forest × S)
      → first_of f (first_of g r) ≡ first_of (concat f g) r
  first-first f g r = ap (λ h. (h, r.1, r.2)) (sym (joined_assoc f g r.0))

  pub one-passed : (p : Place) (s : S) (q : Place) (r : S) (n : Place) (x : S) → Passed p s q r
      → Some x ≡ step r (erased_ahead q) → place_after (read_visible q) ≡ Some n
      → Passed p s n x × (remaining n < remaining q)
  one-passed p s q r n x so go a =
      let read = tree_read q n a in
      let t = read.0 in
      let e = read.1 in
      let u = erased_tree t in
      let goes = rw e at (visible_goes q) in
      let follows = tree_follows p q n (t ∷ []) so.follows e in
      let now : erased_ahead q ≡ tree u (erased_ahead n) =
      first-tree t u n (erased_ahead q) (sym (ap erased_read e) ∙ visible_tells q) refl in
      let next : step r (tree u (erased_ahead n)) ≡ Some x = sym (go ∙ ap (step r) now) in
      let before = erase (between p q) in
      let all : erase (between p n) ≡ concat before (tree u no_trees) =
      between_next p q n t so.follows follows e ∙ ap (concat before) (visible_erased q t n e) in (
        record {
          trees =
              so.trees
              ∙ ap (λ h. first_of before (passing step r h)) now
              ∙ ap (first_of before) (gone u (erased_ahead n) r x next)
              ∙ first-first before (tree u no_trees) (passing step x (erased_ahead n))
              ∙ ap (λ h. first_of h (passing step x (erased_ahead n))) (sym all);
          follows = follows;
          passes = one_more q n so.passes a;
          scope = one_scope q n (keeps_scope q n goes) ∙ so.scope;
          less = omega (arith, so.less, goes.1);
          reached =
              λ b i.
              rw e at (leads-take (Reached b) (Reached b) (reached_leads_on b) any_tree (descend q)
              (down q (so.reached b i)));
          kept = (rw e at (visible_kept q)) ∙ so.kept;
        },
        goes.1,
      )

  pub ended : (q : Place) (r : S) → None ≡ step r (erased_ahead q)
      → passing step r (erased_ahead q) ≡ (no_trees, erased_ahead q, r)
  ended q r e = go (erased_ahead q) e where
    go : (f : Forest) → None ≡ step r f → passing step r f ≡ (no_trees, f, r)
    go no_trees h = refl
    go (tree t f) h = rw (← h) refl

  -- where no tree is read a run ends
  pub at-end : (q : Place) (r : S) → place_after (read_visible q) ≡ None
      → passing step r (erased_ahead q) ≡ (no_trees, erased_ahead q, r)
  at-end q r k =
      go (erased_ahead q)
      (sym (ap erased_read (none-read (read_visible q) k)) ∙ visible_tells q) where
        go : (f : Forest) → None ≡ first_if any_tree f → passing step r f ≡ (no_trees, f, r)
        go no_trees h = refl
        go (tree t f) h = absurd (cc)

  pub run-ends : (s t : State) (run r : S) (f : Forest) (q : Place) → Passed s.place run q r
      → passing step r (erased_ahead q) ≡ (no_trees, erased_ahead q, r) → f ≡ between s.place q
      → t ≡ moved q s
      → TakesAs {T = Forest × S} (λ v. (erase v.0, v.1)) (take_run_with_state step run) s
      (Ok (f, r)) t
  unfolding take_run_with_state
  run-ends s t run r f q so e k m = grind (arith, concat-none)
