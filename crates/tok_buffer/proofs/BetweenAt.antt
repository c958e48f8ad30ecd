-- The trees up to a count, entry by entry.
use Rattle.std.proofs.Common.{◌≡◌, ap, arith, ℕ, ◌+◌, ◌≤◌, ◌<◌, List, Some}
use Rattle.tok_lexical.specs.declared.delimiter.Delimiter.{Delimiter}
use Rattle.tok_leaves.specs.declared.span.Span.{Span}
use Rattle.tok_core.specs.Forest.{Tree, leaf, group, Forest, no_trees, tree}
use Rattle.tok_core.specs.Weight.{weight, tree_weight}
use Rattle.tok_buffer.specs.Between.{trees_to}
use Rattle.tok_buffer.specs.Moves.{advance, end_of, frames_at, frames_in_scope}
use Rattle.tok_buffer.specs.Place.{Frame, frame, at, front}
use Rattle.tok_buffer.specs.Private.Steps.{ahead_place, beyond, IsOn, FindsGroup}
use Rattle.tok_buffer.specs.Rest.{rest}
use Rattle.tok_buffer.specs.declared.ahead.Ahead.{Ahead}
use Rattle.tok_buffer.specs.declared.ahead.NextGroup.{NextGroup}
use Rattle.tok_buffer.proofs.Between.{to_none, to_open, to_tree}
use Rattle.tok_buffer.proofs.Rests.{rest_inside}

front_taken : (e k s n : ℕ) (l : Frame) (us : List Frame) (t : Tree) →
    front (at k s n l us) ≡ Some t → n + tree_weight t ≤ e →
    trees_to e (at k s n l us) ≡ tree t (trees_to e (beyond (at k s n l us)))
front_taken e k s n (frame o p no_trees) us t q h = cc
front_taken e k s n (frame o p (tree u f)) us t q h =
    let w : u ≡ t = cc in
    rw (← w) (to_tree e k s n o p u f us (omega (arith, ap tree_weight w, h)))

open_taken : (e k s n : ℕ) (l : Frame) (us : List Frame) (d : Delimiter) (c : Forest) (t : Span) →
    front (at k s n l us) ≡ Some (group d c t) → e < n + (2 + weight c) →
    trees_to e (at k s n l us) ≡ trees_to e (advance (at k s n l us))
open_taken e k s n (frame o p no_trees) us d c t q h = cc
open_taken e k s n (frame o p (tree (leaf i) f)) us d c t q h = cc
open_taken e k s n (frame o p (tree (group x b y) f)) us d c t q h =
    let w : b ≡ c = cc in to_open e k s n o p x b y f us (omega (arith, ap weight w, h))

module _ (e : ℕ) (a : Ahead) where
  -- the innermost frame
  abbrev inner : Frame
  inner = (frames_at a.buffer.now.forest a.position).0

  -- the frames around it in the scope
  abbrev outer : List Frame
  outer =
      frames_in_scope (end_of a.position inner) a.scope
      (frames_at a.buffer.now.forest a.position).1

  pub taken_done : e ≤ a.position → trees_to e (ahead_place a) ≡ no_trees
  taken_done h = to_none e a.buffer.now.number a.scope a.position inner outer h

  pub taken_front : (b : Ahead) (many : ℕ) (t : Tree) → front (ahead_place a) ≡ Some t →
      IsOn a many (beyond (ahead_place a)) b → a.position + tree_weight t ≤ e →
      trees_to e (ahead_place a) ≡ tree t (trees_to e (ahead_place b))
  taken_front b many t q on h =
      cc (front_taken e a.buffer.now.number a.scope a.position inner outer t q h, on.place)

  -- a group that ends later is entered
  pub taken_open : (g : NextGroup) → FindsGroup a g → e < g.after.position →
      trees_to e (ahead_place a) ≡ trees_to e (ahead_place g.entered)
  taken_open g f h =
      let entered = open_taken e a.buffer.now.number a.scope a.position inner outer
      g.opening.now.delimiter f.contents g.opening.now.span f.found
      (omega (arith, f.after.position, h)) in
      cc (f.entered.place)

  -- a group that ends in time is a tree
  pub taken_group : (g : NextGroup) → FindsGroup a g → g.after.position ≤ e →
      trees_to e (ahead_place a)
      ≡ tree (group g.opening.now.delimiter (rest (ahead_place g.inside)) g.opening.now.span)
      (trees_to e (ahead_place g.after))
  taken_group g f h =
      rw (rest_inside a g f)
      (taken_front g.after _ _ f.found f.after (omega (arith, f.after.position, h)))
