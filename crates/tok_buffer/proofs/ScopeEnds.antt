-- Visible trees, and the end of a scope.
use Rattle.std.proofs.Common.{◌≡◌, ◌∙◌, ap, refl, arith, ℕ, ◌<◌, ◌≤◌}
use Rattle.std.proofs.Common.{true, List, [], ◌∷◌, Option, Some, None}
use Rattle.std.proofs.lemmas.Bool.{false≢true}
use Rattle.tok_lexical.specs.declared.delimiter.Delimiter.TheVariants as delimiter
use Rattle.tok_core.specs.Erase.{erase}
use Rattle.tok_core.specs.Forest.{Tree, leaf, group, no_trees, tree}
use Rattle.tok_core.proofs.Erasures.{erase_concat}
use Rattle.tok_buffer.specs.Buffer.{Laid}
use Rattle.tok_buffer.specs.Cursors.{place_of, spot_place}
use Rattle.tok_buffer.specs.Descent.{descend}
use Rattle.tok_buffer.specs.EachRead.{first_if}
use Rattle.tok_buffer.specs.Moves.{end_of, is_settled, frames_at, frames_in_scope}
use Rattle.tok_buffer.specs.Order.{same_scope}
use Rattle.tok_buffer.specs.Place.{Frame, frame, Place, empty_place, at, is_at_end}
use Rattle.tok_buffer.specs.Progress.{remaining}
use Rattle.tok_buffer.specs.Reached.{Reached}
use Rattle.tok_buffer.specs.Reads.{place_after, read_tree}
use Rattle.tok_core.specs.Kinds.{any_tree}
use Rattle.tok_buffer.specs.Rest.{rest, rest_in}
use Rattle.tok_buffer.specs.Trees.{EndsScope, PassesTrees, erased_read, erased_tree, here}
use Rattle.tok_buffer.specs.Trees.{further, read_visible}
use Rattle.tok_buffer.specs.View.{erased_ahead, erased_in}
use Rattle.tok_buffer.specs.declared.cursor.Cursor.{Cursor}
use Rattle.tok_buffer.specs.declared.spot.Spot.{Spot}
use Rattle.tok_buffer.proofs.Onwards.{reads_go_on, reads_keep_scope}
use Rattle.tok_buffer.proofs.View.Erased.{erased-descend, erased-pass}
use Rattle.tok_buffer.proofs.View.Keeps.{IsDescended, descended-descend}
use Rattle.tok_buffer.proofs.View.Laws.{reached_leads_on}
use Rattle.tok_buffer.proofs.View.Moves.{leads-take, read_parts}

-- the front tree at the end of a descent
front-visible : (p : Place) → IsDescended p
    → erased_read (read_tree p) ≡ first_if any_tree (erased_ahead p)
front-visible empty_place h = refl
front-visible (at n s c (frame o p no_trees) []) h = refl
front-visible (at n s c (frame o p no_trees) (l ∷ ls)) h = absurd h
front-visible (at n s c (frame o p (tree (leaf l) f)) ls) h =
    rw (erased-pass n s c o p (leaf l) f ls)
front-visible (at n s c (frame o p (tree (group delimiter.None inside span) f)) ls) h = absurd h
front-visible (at n s c (frame o p (tree (group d inside span) f)) ls) h =
    rw (erased-pass n s c o p (group d inside span) f ls)

-- the next visible tree is the first one ahead
pub visible_tells : (p : Place) → erased_read (read_visible p) ≡ first_if any_tree (erased_ahead p)
visible_tells p =
    front-visible (descend p) (descended-descend p) ∙ ap (first_if any_tree) (erased-descend p)

front-erased : (p : Place) → IsDescended p → (t : Tree) (q : Place)
    → read_tree p ≡ Some (t ∷ [], q) → erase (tree t no_trees) ≡ tree (erased_tree t) no_trees
front-erased empty_place h t q e = absurd (cc)
front-erased (at n s c (frame o p no_trees) ls) h t q e = absurd (cc)
front-erased (at n s c (frame o p (tree (leaf l) f)) ls) h t q e =
    let (same, after) = read_parts (leaf l) t _ q e in rw (← same)
front-erased (at n s c (frame o p (tree (group delimiter.None inside span) f)) ls) h t q e =
    absurd h
front-erased (at n s c (frame o p (tree (group d inside span) f)) ls) h t q e =
    let (same, after) = read_parts (group d inside span) t _ q e in rw (← same)

-- a visible tree is one tree without invisible groups
pub visible_erased : (p : Place) (t : Tree) (q : Place) → read_visible p ≡ Some (t ∷ [], q)
    → erase (tree t no_trees) ≡ tree (erased_tree t) no_trees
visible_erased p t q e = front-erased (descend p) (descended-descend p) t q e

-- a tree is passed
pub pass-one : (p q r : Place) → PassesTrees p q → place_after (read_tree q) ≡ Some r
    → PassesTrees p r × (remaining r < remaining q)
pass-one p q r h e = go (read_tree q) refl e where
  go : (x : Option (List Tree × Place)) → read_tree q ≡ x → place_after x ≡ Some r
      → PassesTrees p r × (remaining r < remaining q)
  go None k m = absurd (cc)
  go (Some y) k m =
      let i : y.1 ≡ r = cc in
      let j : read_tree q ≡ Some (y.0, r) = k ∙ ap (λ z. Some (y.0, z)) i in
      (further q r y.0 h j, reads_go_on.trees.lowers q y.0 r j)

-- nothing is ahead of a settled place before no tree
no-front : (n s c : ℕ) (l : Frame) (us : List Frame) → is_settled l us ≡ true
    → place_after (read_tree (at n s c l us)) ≡ None
    → (is_at_end (at n s c l us) ≡ true) × (erased_in (l ∷ us) ≡ no_trees)
no-front n s c (frame o p no_trees) [] h e = (refl, refl)
no-front n s c (frame o p no_trees) (u ∷ us) h e = absurd (false≢true h)
no-front n s c (frame o p (tree t f)) us h e = absurd (cc)

spot-ends : (x : Spot) → place_after (read_tree (spot_place x)) ≡ None
    → (is_at_end (spot_place x) ≡ true) × (erased_ahead (spot_place x) ≡ no_trees)
spot-ends x e =
    let g = frames_at x.buffer.now.forest x.position in
    no-front x.buffer.now.number x.scope x.position g.0
    (frames_in_scope (end_of x.position g.0) x.scope g.1)
    x.settled e

cursor-ends : (x : Option Spot)
    → place_after (read_tree (elim x [ None ↦ empty_place | Some s ↦ spot_place s ])) ≡ None
    → (is_at_end (elim x [ None ↦ empty_place | Some s ↦ spot_place s ]) ≡ true)
    × (erased_ahead (elim x [ None ↦ empty_place | Some s ↦ spot_place s ]) ≡ no_trees)
cursor-ends None e = (refl, refl)
cursor-ends (Some s) e = spot-ends s e

pub ends_scope : (p : Place) (c : Cursor) → PassesTrees p (place_of c)
    → place_after (read_tree (place_of c)) ≡ None → EndsScope p (place_of c)
ends_scope p c h e =
    let k = cursor-ends c.spot e in record { passes = h; at_end = k.0; none_ahead = k.1 }

-- what passing trees keeps
pub passes-keep : (p q : Place) → PassesTrees p q → same_scope p p ≡ true
    → (same_scope p q ≡ true) × (remaining q ≤ remaining p)
    × ((b : Laid) → Reached b p → Reached b q)
passes-keep p q here i = (i, omega arith, λ b r. r)
passes-keep p z (further q r ts h e) i =
    let k = passes-keep p q h i in (
      reads_keep_scope.along p q r k.0 (reads_keep_scope.calls.trees q ts r e),
      omega (arith, k.1, reads_go_on.trees.lowers q ts r e),
      λ b j.
          rw e at
          (leads-take (Reached b) (Reached b) (reached_leads_on b) any_tree q (k.2 b j)),
    )

-- the trees that are left, without invisible groups
rest-erased : (ls : List Frame) → erase (rest_in ls) ≡ erased_in ls
rest-erased [] = refl
rest-erased (frame o p a ∷ ls) = rw (erase_concat a (rest_in ls), rest-erased ls)

pub rest_erased : (p : Place) → erase (rest p) ≡ erased_ahead p
rest_erased empty_place = refl
rest_erased (at n s c l ls) = rest-erased (l ∷ ls)
