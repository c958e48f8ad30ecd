-- The visible trees ahead as a forest.
use Rattle.std.proofs.Common.{◌≡◌, ◌∙◌, sym, refl, ℕ, Bool, true, false, List, [], ◌∷◌, ◌++◌, map}
use Rattle.tok_lexical.specs.declared.delimiter.Delimiter.TheVariants as delimiter
use Rattle.tok_core.specs.Forest.{Tree, leaf, group, Forest, no_trees, tree, forest, concat}
use Rattle.tok_core.proofs.Facts.{joined_assoc}
use Rattle.tok_buffer.specs.Ahead.{visible, marked_ahead, ahead_in}
use Rattle.tok_buffer.specs.Descent.{descend}
use Rattle.tok_buffer.specs.Place.{Enclosing, whole, in_group, Frame, frame, Place, empty_place, at}
use Rattle.tok_buffer.specs.Place.{leave_group, leave_finished}
use Rattle.tok_buffer.proofs.View.Keeps.{IsKept, kept-leave_finished, kept-descend}

-- The visible trees ahead, without marks.
abbrev pub unmarked : Forest → Forest
unmarked no_trees = no_trees
unmarked (tree (leaf l) f) = tree (leaf l) (unmarked f)
unmarked (tree (group delimiter.None inside span) f) = concat (unmarked inside) (unmarked f)
unmarked (tree (group d inside span) f) = tree (group d inside span) (unmarked f)

-- the visible trees ahead in each frame
abbrev pub unmarked_in : List Frame → Forest
unmarked_in [] = no_trees
unmarked_in (frame o p a ∷ ls) = concat (unmarked a) (unmarked_in ls)

-- the visible trees ahead of a place
abbrev pub trees_ahead : Place → Forest
trees_ahead empty_place = no_trees
trees_ahead (at n s c l ls) = unmarked_in (l ∷ ls)

unmarked_in-leave_group : (o : Enclosing) (p : Forest) (l : Frame) (ls : List Frame)
    → unmarked_in (leave_group o p l ∷ ls) ≡ unmarked_in (l ∷ ls)
unmarked_in-leave_group whole p l ls = refl
unmarked_in-leave_group (in_group d span) p (frame o q a) ls = refl

-- neither settling nor a descent changes the trees ahead
module _ (marked_ahead : Forest) where
  -- these are the trees ahead
  abbrev HasAhead : Place → Type 0
  HasAhead p = trees_ahead p ≡ marked_ahead

  kept-ahead : IsKept HasAhead
  kept-ahead = record {
    into =
        λ n s c o p inside span f ls h. sym
        (joined_assoc (unmarked inside) (unmarked f) (unmarked_in ls)) ∙ h;
    out = λ n s c o p l ls h. unmarked_in-leave_group o p l ls ∙ h;
  }

pub trees_ahead-leave_finished : (n s c : ℕ) (l : Frame) (ls : List Frame)
    → trees_ahead (leave_finished n s c l ls) ≡ unmarked_in (l ∷ ls)
trees_ahead-leave_finished n s c l ls =
    kept-leave_finished (HasAhead _) (kept-ahead _) n s c l ls refl

pub trees_ahead-descend : (p : Place) → trees_ahead (descend p) ≡ trees_ahead p
trees_ahead-descend p = kept-descend (HasAhead _) (kept-ahead _) p refl

-- the list of trees ahead, without its marks
abbrev pub plain : List (Bool × Tree) → Forest
plain ts = forest (map (λ t. t.1) ts)

plain-append : (ts us : List (Bool × Tree)) → plain (ts ++ us) ≡ concat (plain ts) (plain us)
plain-append [] us = refl
plain-append (t ∷ ts) us = rw (plain-append ts us)

plain-visible : (b : Bool) (f : Forest) → plain (visible b f) ≡ unmarked f
plain-visible b no_trees = refl
plain-visible b (tree (leaf l) f) = rw (plain-visible b f)
plain-visible b (tree (group delimiter.None inside span) f) =
    rw (plain-append, plain-visible true inside, plain-visible b f)
plain-visible b (tree (group d inside span) f) = rw (plain-visible b f)

plain-ahead_in : (ls : List Frame) → plain (ahead_in ls) ≡ unmarked_in ls
plain-ahead_in [] = refl
plain-ahead_in (frame o p a ∷ ls) =
    rw (plain-append (visible false a) (ahead_in ls), plain-visible false a, plain-ahead_in ls)

pub plain-ahead : (p : Place) → plain (marked_ahead p) ≡ trees_ahead p
plain-ahead empty_place = refl
plain-ahead (at n s c l ls) = plain-ahead_in (l ∷ ls)
