-- The scope, and the erased trees ahead, after each move.
use Rattle.std.proofs.Common.{◌≡◌, ◌∙◌, sym, ap, refl, ℕ, List, [], ◌∷◌, ◌+◌}
use Rattle.tok_core.specs.Erase.{erase}
use Rattle.tok_core.specs.Forest.{Forest, no_trees, tree, Tree, concat}
use Rattle.tok_core.proofs.Facts.{joined_assoc}
use Rattle.tok_buffer.specs.Descent.{descend}
use Rattle.tok_buffer.specs.Place.{Enclosing, whole, in_group, Frame, frame, Place, empty_place, at}
use Rattle.tok_buffer.specs.Place.{leave_group, leave_finished, pass}
use Rattle.tok_buffer.specs.Rest.{frames_delimiter}
use Rattle.tok_buffer.specs.View.{erased_ahead, erased_in, View, empty_view, seen, view}
use Rattle.tok_buffer.specs.View.{visible_after}
use Rattle.tok_buffer.proofs.View.Keeps.{IsKept, kept-leave_finished, kept-descend}
use Rattle.tok_buffer.proofs.View.Moves.{IsMoved, moved-pass, Leads}
use Rattle.tok_core.specs.Weight.{tree_weight}
use Rattle.tok_buffer.proofs.Enclosing.{leave_group-delimiter}

erased-leave_group : (o : Enclosing) (p : Forest) (l : Frame) (ls : List Frame)
    → erased_in (leave_group o p l ∷ ls) ≡ erased_in (l ∷ ls)
erased-leave_group whole p l ls = refl
erased-leave_group (in_group d span) p (frame o q a) ls = refl

-- neither settling nor a descent changes the erased trees ahead
module _ (ahead : Forest) where
  -- these are the erased trees ahead
  abbrev HasErased : Place → Type 0
  HasErased p = erased_ahead p ≡ ahead

  kept-erased : IsKept HasErased
  kept-erased = record {
    into = λ n s c o p inside span f ls h. sym
        (joined_assoc (erase inside) (erase f) (erased_in ls)) ∙ h;
    out = λ n s c o p l ls h. erased-leave_group o p l ls ∙ h;
  }

pub erased-leave_finished : (n s c : ℕ) (l : Frame) (ls : List Frame)
    → erased_ahead (leave_finished n s c l ls) ≡ erased_in (l ∷ ls)
erased-leave_finished n s c l ls = kept-leave_finished (HasErased _) (kept-erased _) n s c l ls refl

-- past the front tree, those after it are ahead
pub erased-pass : (n s c : ℕ) (o : Enclosing) (p : Forest) (t : Tree) (f : Forest)
    (ls : List Frame) → erased_ahead (pass (at n s c (frame o p (tree t f)) ls))
    ≡ concat (erase f) (erased_in ls)
erased-pass n s c o p t f ls =
    erased-leave_finished n s (c + tree_weight t) (frame o (tree t p) f) ls

pub erased-descend : (p : Place) → erased_ahead (descend p) ≡ erased_ahead p
erased-descend p = kept-descend (HasErased _) (kept-erased _) p refl

one_enclosing : (o : Enclosing) (p q a b : Forest) (ls : List Frame)
    → frames_delimiter (frame o p a) ls ≡ frames_delimiter (frame o q b) ls
one_enclosing o p q a b [] = refl
one_enclosing o p q a b (l ∷ ls) = refl

-- a view's scope, with these trees ahead, or none
abbrev pub in_scope : View → Forest → View
in_scope empty_view f = empty_view
in_scope (seen k d g) f = seen k d f

-- a view's scope, with no trees ahead
abbrev pub scope_of : View → View
scope_of v = in_scope v no_trees

-- no move changes the scope
module _ (g : Forest) (v : View) where
  -- the place has this scope
  abbrev pub HasScope : Place → Type 0
  HasScope p = scope_of (view g p) ≡ v

  moved-scope : IsMoved HasScope
  moved-scope = record {
    kept = record {
      into = λ n s c o p inside span f ls h.
          ap (λ d. seen (visible_after g s) d no_trees) (one_enclosing o p p f _ ls) ∙ h;
      out = λ n s c o p l ls h.
          ap (λ d. seen (visible_after g s) d no_trees) (leave_group-delimiter o p l ls) ∙ h;
    };
    past = λ n s c o p t f ls h.
        ap (λ d. seen (visible_after g s) d no_trees) (one_enclosing o (tree t p) p f _ ls) ∙ h;
  }

  pub scope-descend : (p : Place) → HasScope p → HasScope (descend p)
  scope-descend = kept-descend HasScope moved-scope.kept

  pub leads-scope : Leads HasScope HasScope
  leads-scope =
      record {
        down = scope-descend;
        past = λ p t e h. moved-pass HasScope moved-scope p h;
        weaker = λ p h. h;
      }

  -- so a view is told by its scope and the erased trees ahead
  pub view-scope : (p : Place) → HasScope p → view g p ≡ in_scope v (erased_ahead p)
  view-scope empty_place h = ap (λ w. in_scope w no_trees) h
  view-scope (at n s c l ls) h = ap (λ w. in_scope w (erased_in (l ∷ ls))) h
