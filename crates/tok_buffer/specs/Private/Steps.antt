-- The next entry of a scope, and what is ahead after it.
use Rattle.std.specs.Prelude.{◌≡◌, ℕ, ◌+◌, ◌≤◌, Bool, true, false, [], ◌∷◌, Some}
use Rattle.tok_lexical.specs.declared.delimiter.Delimiter.{Delimiter}
use Rattle.tok_leaves.specs.declared.span.Span.{Span}
use Rattle.tok_core.specs.Forest.{leaf, group, Forest, no_trees, tree}
use Rattle.tok_core.specs.Weight.{weight, tree_weight}
use Rattle.tok_buffer.specs.Moves.{place_at, advance}
use Rattle.tok_buffer.specs.Place.{in_group, frame, Place, at, front}
use Rattle.tok_buffer.specs.Private.Layout.{leaf_in}
use Rattle.tok_buffer.specs.declared.ahead.Ahead.{Ahead}
use Rattle.tok_buffer.specs.declared.ahead.Next.{Next}
use Rattle.tok_buffer.specs.declared.ahead.Next.TheVariants as next
use Rattle.tok_buffer.specs.declared.ahead.NextGroup.{NextGroup}

-- the place where this is ahead
abbrev pub ahead_place : Ahead → Place
ahead_place a = place_at a.buffer.now.number a.buffer.now.forest a.position a.scope

-- a group ends here that is not the scope's
abbrev pub ends_group : Place → Bool
ends_group (at k s n (frame o p no_trees) (u ∷ us)) = true
ends_group p = false

-- past the front tree, in the same frame
abbrev pub beyond : Place → Place
beyond (at k s n (frame o p (tree t f)) us) = at k s (n + tree_weight t) (frame o (tree t p) f) us
beyond p = p

-- at the start of the front group's contents, which are the scope
abbrev pub inside_front : Place → Place
inside_front (at k s n (frame o p (tree (group d c t) f)) us) =
    at k (n + 1 + weight c) (n + 1) (frame (in_group d t) no_trees c) []
inside_front p = p

-- a group is next
abbrev pub OpensGroup : Place → Type 0
OpensGroup p = (d : Delimiter) × (c : Forest) × (t : Span) × (front p ≡ Some (group d c t))

-- so many entries on, in the same scope, at this place
pub record IsOn (a : Ahead) (many : ℕ) (p : Place) (b : Ahead) : Type 0 where
  pub buffer : b.buffer.now ≡ a.buffer.now
  pub scope : b.scope ≡ a.scope
  pub position : b.position ≡ a.position + many
  pub fits : b.position ≤ b.scope
  pub place : ahead_place b ≡ p

-- a group that is found, and what is ahead in it and after it
pub record FindsGroup (a : Ahead) (g : NextGroup) : Type 0 where
  pub contents : Forest
  pub found : front (ahead_place a)
      ≡ Some (group g.opening.now.delimiter contents g.opening.now.span)
  pub inside : ahead_place g.inside ≡ inside_front (ahead_place a)
  pub begins : g.inside.position ≡ a.position + 1
  pub ends : g.inside.scope ≡ a.position + 1 + weight contents
  pub entered : IsOn a 1 (advance (ahead_place a)) g.entered
  pub after : IsOn a (2 + weight contents) (beyond (ahead_place a)) g.after

-- what is found is next at the place: a leaf, a group, or the end of one
abbrev pub Finds : Ahead → Next → Type 0
Finds a (next.Leaf l b) =
    (front (ahead_place a) ≡ Some (leaf (leaf_in l))) × IsOn a 1 (beyond (ahead_place a)) b
Finds a (next.Group g) = FindsGroup a g
Finds a (next.End b) =
    (ends_group (ahead_place a) ≡ true) × IsOn a 1 (advance (ahead_place a)) b
