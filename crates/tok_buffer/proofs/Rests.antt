-- The trees ahead, entry by entry.
use Rattle.std.proofs.Common.{◌≡◌, ℕ, true, List, [], Some, ap, ◌∙◌}
use Rattle.tok_lexical.specs.declared.delimiter.Delimiter.{Delimiter}
use Rattle.tok_leaves.specs.declared.span.Span.{Span}
use Rattle.tok_core.specs.Forest.{Tree, leaf, group, Forest, no_trees, tree, concat}
use Rattle.tok_core.proofs.Facts.{concat-none, joined_assoc}
use Rattle.tok_buffer.specs.Place.{Frame, frame, Place, empty_place, at, front}
use Rattle.tok_buffer.specs.Moves.{end_of, frame_ahead, frames_at, frames_in_scope}
use Rattle.tok_buffer.specs.Moves.{in_scope, place_at}
use Rattle.tok_buffer.specs.Rest.{rest}
use Rattle.tok_buffer.specs.Private.Steps.{ahead_place, beyond, inside_front, IsOn, FindsGroup}
use Rattle.tok_buffer.specs.declared.ahead.Ahead.{Ahead}
use Rattle.tok_buffer.specs.declared.ahead.NextGroup.{NextGroup}
use Rattle.tok_buffer.proofs.InScope.{scope_end}

front_rest : (p : Place) (t : Tree) → front p ≡ Some t → rest p ≡ tree t (rest (beyond p))
front_rest empty_place t e = cc
front_rest (at k s n (frame o p no_trees) us) t e = cc
front_rest (at k s n (frame o p (tree u f)) us) t e = let w : u ≡ t = cc in rw (← w)

inside_rest : (p : Place) (d : Delimiter) (c : Forest) (t : Span) → front p ≡ Some (group d c t) →
    rest (inside_front p) ≡ c
inside_rest empty_place d c t e = cc
inside_rest (at k s n (frame o p no_trees) us) d c t e = cc
inside_rest (at k s n (frame o p (tree (leaf i) f)) us) d c t e = cc
inside_rest (at k s n (frame o p (tree (group x b y) f)) us) d c t e =
    let w : b ≡ c = cc in rw concat-none w

done_rest : (k s n : ℕ) (l : Frame) (us : List Frame) → frame_ahead l ≡ no_trees → us ≡ [] →
    rest (at k s n l us) ≡ no_trees
done_rest k s n (frame o p f) us e q = rw (e, q)

pub rest_done : (k : ℕ) (F : Forest) (n s : ℕ) → in_scope F n s ≡ true → n ≡ s →
    rest (place_at k F n s) ≡ no_trees
rest_done k F n s h e =
    let x = frames_at F n in
    let q = scope_end n s x.0 x.1 h e in
    done_rest k s n x.0 (frames_in_scope (end_of n x.0) s x.1) q.0 q.1

pub rest_front : (a b : Ahead) (many : ℕ) (t : Tree) → front (ahead_place a) ≡ Some t →
    IsOn a many (beyond (ahead_place a)) b → rest (ahead_place a)
    ≡ tree t (rest (ahead_place b))
rest_front a b many t e on = cc (front_rest (ahead_place a) t e, on.place)

pub rest_inside : (a : Ahead) (g : NextGroup) (found : FindsGroup a g) →
    rest (ahead_place g.inside) ≡ found.contents
rest_inside a g found =
    ap rest found.inside
    ∙ inside_rest (ahead_place a) g.opening.now.delimiter found.contents g.opening.now.span
    found.found

-- a group: its contents, then what is ahead after it
pub rest_group : (a : Ahead) (g : NextGroup) → FindsGroup a g → rest (ahead_place a)
    ≡ tree (group g.opening.now.delimiter (rest (ahead_place g.inside)) g.opening.now.span)
    (rest (ahead_place g.after))
rest_group a g found = rw (rest_inside a g found) (rest_front a g.after _ _ found.found found.after)

pub tree_copied : (new old later all : Forest) (t u : Tree) →
    new ≡ concat old (tree u no_trees) → u ≡ t → all ≡ tree t later → concat new later
    ≡ concat old all
tree_copied new old later all t u e q h = rw (e, joined_assoc, q, h)
