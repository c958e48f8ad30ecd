-- Where calls lead, and the visible trees that they take.
use Rattle.std.proofs.Common.{◌≡◌, ap, Bool, List, [], ◌∷◌, Some}
use Rattle.std.specs.Prelude.{IfSome, option_map}
use Rattle.tok_lexical.specs.declared.delimiter.Delimiter.{Delimiter}
use Rattle.tok_core.specs.Forest.{Tree, leaf, group, no_trees, tree}
use Rattle.tok_buffer.specs.Between.{Follows, from_here, after_descent, after_tree, ReadsFollow}
use Rattle.tok_buffer.specs.Descent.{descend}
use Rattle.tok_buffer.specs.EachRead.{Read}
use Rattle.tok_buffer.specs.Entry.{Entered, enter, enter_any}
use Rattle.tok_buffer.specs.Place.{frame, Place, empty_place, at}
use Rattle.tok_buffer.specs.Progress.{ReadLeads}
use Rattle.tok_buffer.specs.Reads.{place_after, read_if, read_tree, skip}
use Rattle.tok_core.specs.Kinds.{any_tree}
use Rattle.tok_buffer.specs.Trees.{read_visible}
use Rattle.tok_buffer.proofs.View.Moves.{Leads, LeadsTo, leads, leads-skip, leads-take}
use Rattle.tok_buffer.proofs.View.Readings.{each_read}
use Rattle.std.proofs.lemmas.Option.{IfSome_then}
use Rattle.tok_buffer.proofs.View.Keeps.{of-entered}

follows_along : (p q r : Place) → Follows p q → Follows q r → Follows p r
follows_along p q r h from_here = h
follows_along p q r h (after_descent x k) = after_descent x (follows_along p q x h k)
follows_along p q r h (after_tree x k) = after_tree x (follows_along p q x h k)

follows_on : (p : Place) → Leads (Follows p) (Follows p)
follows_on p =
    record {
      down = λ q h. after_descent q h;
      past = λ q t e h. after_tree q h;
      weaker = λ q h. h;
    }

-- a read that leads there
module _ (read : Read) (on : (p : Place) → LeadsTo (Follows p) (read p)) where
  read_follows : ReadLeads Follows read
  read_follows p ts q e = rw e at (on p)

skip_follows : (p q : Place) → skip p ≡ Some q → Follows p q
skip_follows p q e = rw e at (leads-skip (Follows p) (Follows p) (follows_on p) p from_here)

any_follows : (p : Place) → IfSome (enter_any p) (λ e. Follows p e.after)
any_follows empty_place = tt
any_follows (at n s c (frame o p no_trees) ls) = tt
any_follows (at n s c (frame o p (tree (leaf l) f)) ls) = tt
any_follows (at n s c (frame o p (tree (group d inside span) f)) ls) =
    after_tree (at n s c (frame o p (tree (group d inside span) f)) ls) from_here

group_follows : (d : Delimiter) (p : Place) (e : Entered) → enter d p ≡ Some e → Follows p e.after
group_follows d p e h =
    rw h at (of-entered (λ x. Follows p x.after) d p (any_follows p)
    (IfSome_then (enter_any (descend p)) (any_follows (descend p))
    (λ x k. follows_along p (descend p) x.after (after_descent p from_here) k)))

take_follows : (wanted : Tree → Bool) (p : Place) → LeadsTo (Follows p) (read_if wanted p)
take_follows wanted p = leads-take (Follows p) (Follows p) (follows_on p) wanted p from_here

pub reads_follow : ReadsFollow
reads_follow = record {
  calls = record {
    leaves =
        each_read _ (λ read first r. read_follows read
        (λ p. leads (Follows p) (Follows p) (follows_on p) r p from_here));
    trees = read_follows (read_if any_tree) (take_follows any_tree);
    taken = λ wanted. read_follows (read_if wanted) (take_follows wanted);
    skips = skip_follows;
    groups = group_follows;
    any_groups = λ p e h. rw h at (any_follows p);
  };
  along = follows_along;
}

-- so does the read of a visible tree
pub tree_follows : (p q r : Place) (ts : List Tree) → Follows p q → read_visible q ≡ Some (ts, r)
    → Follows p r
tree_follows p q r ts h e =
    rw e at
    (leads-take (Follows p) (Follows p) (follows_on p) any_tree (descend q) (after_descent q h))

-- a tree is passed
pub tree_read : (q r : Place) → place_after (read_visible q) ≡ Some r
    → (t : Tree) × (read_visible q ≡ Some (t ∷ [], r))
tree_read q r e = go (descend q) e where
  go : (d : Place) → place_after (read_tree d) ≡ Some r
      → (t : Tree) × (read_tree d ≡ Some (t ∷ [], r))
  go empty_place h = absurd (cc)
  go (at n s c (frame o p no_trees) ls) h = absurd (cc)
  go (at n s c (frame o p (tree t f)) ls) h = (t, ap (option_map (λ x. (t ∷ [], x))) h)
