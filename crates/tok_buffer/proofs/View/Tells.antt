-- What a read takes, and a skip passes, of the erased trees ahead.
use Rattle.std.proofs.Common.{◌≡◌, refl, Bool, List, [], ◌∷◌, ◌++◌, Option, Some, None, inl, inr}
use Rattle.std.specs.Prelude.{option_map}
use Rattle.tok_lexical.specs.declared.delimiter.Delimiter.TheVariants as delimiter
use Rattle.tok_core.specs.Clear.{is_joint_apostrophe}
use Rattle.tok_core.specs.Erase.{erase}
use Rattle.tok_core.specs.Forest.{Tree, leaf, group, Forest, no_trees, tree}
use Rattle.tok_buffer.specs.Descent.{descend}
use Rattle.tok_buffer.specs.EachRead.{Read, First, first_if, and_first}
use Rattle.tok_buffer.specs.InFront.{with_ahead}
use Rattle.tok_buffer.specs.Place.{frame, Place, empty_place, at}
use Rattle.tok_buffer.specs.Reads.{read_if, read_then, any_text, is_ident_of, place_after, read_tree}
use Rattle.tok_buffer.specs.Reads.{read_lifetime, skip}
use Rattle.tok_buffer.specs.View.{erased_ahead, View, empty_view, seen, view}
use Rattle.tok_buffer.proofs.View.Erased.{erased-descend, erased-pass}
use Rattle.tok_buffer.proofs.View.Keeps.{IsDescended, descended-descend}
use Rattle.tok_buffer.proofs.View.Readings.{Reading, never, one, more, IsOfLeaves, of_lifetime}
use Rattle.std.proofs.lemmas.Bool.{cases_Bool}

-- the trees of a view
abbrev pub trees_of : View → Forest
trees_of empty_view = no_trees
trees_of (seen k d f) = f

pub trees-view : (g : Forest) (p : Place) → erased_ahead p ≡ trees_of (view g p)
trees-view g empty_place = refl
trees-view g (at n s c l ls) = refl

pub same_trees : (f g : Forest) (p q : Place) → view f p ≡ view g q
    → erased_ahead p ≡ erased_ahead q
same_trees f g p q e = cc (trees-view f p, trees-view g q)

-- the front tree, at the end of a descent
tells-take : (wanted : Tree → Bool) → IsOfLeaves wanted → (p : Place) → IsDescended p
    → with_ahead (read_if wanted p) ≡ first_if wanted (erased_ahead p)
tells-take wanted leaves empty_place h = refl
tells-take wanted leaves (at n s c (frame o p (tree (leaf l) a)) ls) h =
    let same = erased-pass n s c o p (leaf l) a ls in
    elim (cases_Bool (wanted (leaf l))) [ inl e ↦ simp e (cc) | inr e ↦ simp e ]
tells-take wanted leaves (at n s c (frame o p (tree (group delimiter.None inside span) a)) ls) h =
    absurd h
tells-take wanted leaves (at n s c (frame o p (tree (group d inside span) a)) ls) h =
    simp (leaves d inside span, leaves d (erase inside) span)
tells-take wanted leaves (at n s c (frame o p no_trees) []) h = refl
tells-take wanted leaves (at n s c (frame o p no_trees) (l ∷ ls)) h = absurd h

tells-one : (wanted : Tree → Bool) → IsOfLeaves wanted → (p : Place)
    → with_ahead (read_if wanted (descend p)) ≡ first_if wanted (erased_ahead p)
tells-one wanted leaves p =
    rw (← erased-descend p) (tells-take wanted leaves (descend p) (descended-descend p))

tells-more : (ts : List Tree) (r : Option (List Tree × Place)) (v : Option (List Tree × Forest))
    → with_ahead r ≡ v
    → with_ahead (elim r [ Some q ↦ Some (ts ++ q.0, q.1) | None ↦ None ])
    ≡ elim v [ Some q ↦ Some (ts ++ q.0, q.1) | None ↦ None ]
tells-more ts None v e = rw (← e)
tells-more ts (Some r) v e = rw (← e)

tells-then : (r : Option (List Tree × Place)) (g : Read) (h : First)
    → ((p : Place) → with_ahead (g p) ≡ h (erased_ahead p))
    → with_ahead (read_then r g) ≡ and_first (with_ahead r) h
tells-then None g h e = refl
tells-then (Some r) g h e = tells-more r.0 (g r.1) (h (erased_ahead r.1)) (e r.1)

-- what is read depends on the erased trees ahead alone
pub tells : {read : Read} {first : First} → Reading read first → (p : Place)
    → with_ahead (read p) ≡ first (erased_ahead p)
tells never p = refl
tells (one wanted leaves) p = tells-one wanted leaves p
tells (more wanted leaves g h r) p =
    rw (← tells-one wanted leaves p) (tells-then (read_if wanted (descend p)) g h (tells r))

-- what is ahead after a skip: after a lifetime, or else after the front tree
abbrev pub past_front : Forest → Option Forest
past_front no_trees = None
past_front (tree t f) = Some f

-- the trees after the first token
abbrev pub past_first : Forest → Option Forest
past_first f =
    elim (and_first (first_if is_joint_apostrophe f) (first_if (is_ident_of any_text))) [
      | Some r ↦ Some r.1
      | None ↦ past_front f
    ]

front-tells : (p : Place) → IsDescended p
    → option_map erased_ahead (place_after (read_tree p)) ≡ past_front (erased_ahead p)
front-tells empty_place h = refl
front-tells (at n s c (frame o p no_trees) []) h = refl
front-tells (at n s c (frame o p no_trees) (l ∷ ls)) h = absurd h
front-tells (at n s c (frame o p (tree (leaf l) f)) ls) h = rw (erased-pass n s c o p (leaf l) f ls)
front-tells (at n s c (frame o p (tree (group delimiter.None inside span) f)) ls) h = absurd h
front-tells (at n s c (frame o p (tree (group d inside span) f)) ls) h =
    rw (erased-pass n s c o p (group d inside span) f ls)

either-tells : (x : Option (List Tree × Place)) (y : Option Place)
    (v : Option (List Tree × Forest)) (w : Option Forest) → with_ahead x ≡ v
    → option_map erased_ahead y ≡ w
    → option_map erased_ahead (elim x [ Some r ↦ Some r.1 | None ↦ y ])
    ≡ elim v [ Some r ↦ Some r.1 | None ↦ w ]
either-tells None y v w e k = rw (← e) k
either-tells (Some r) y v w e k = rw (← e)

pub skip_tells : (p : Place) → option_map erased_ahead (skip p) ≡ past_first (erased_ahead p)
skip_tells p =
    either-tells (read_lifetime any_text p) (place_after (read_tree (descend p)))
    (and_first (first_if is_joint_apostrophe (erased_ahead p)) (first_if (is_ident_of any_text)))
    (past_front (erased_ahead p)) (tells (of_lifetime any_text) p)
    (rw (← erased-descend p) (front-tells (descend p) (descended-descend p)))
