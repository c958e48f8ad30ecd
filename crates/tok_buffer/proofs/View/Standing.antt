-- What holds of each place that is reached.
use Rattle.std.proofs.Common.{◌≡◌, ◌∙◌, sym, ap, refl, ℕ, ◌+◌, ◌==◌, ◌&&◌, inl, inr, [], ◌∷◌, arith}
use Rattle.std.proofs.lemmas.Bool.Decides.{nat_tests}
use Rattle.std.specs.Prelude.{⊤, IfSome, true}
use Rattle.std.proofs.lemmas.Bool.{and_parts}
use Rattle.tok_lexical.specs.declared.delimiter.Delimiter.{Delimiter}
use Rattle.tok_lexical.specs.declared.delimiter.Delimiter.TheVariants as delimiter
use Rattle.tok_leaves.specs.declared.span.Span.{Span}
use Rattle.tok_core.specs.Filled.{filled}
use Rattle.tok_core.specs.Forest.{Tree, leaf, group, Forest, no_trees, tree}
use Rattle.tok_core.specs.Weight.{weight, tree_weight}
use Rattle.tok_core.proofs.Facts.{filled_tree}
use Rattle.tok_buffer.specs.Descent.{descend}
use Rattle.tok_buffer.specs.Entry.{Entered, enter, enter_any}
use Rattle.tok_buffer.specs.Order.{same_scope}
use Rattle.tok_buffer.specs.Place.{whole, in_group, frame, Place, empty_place, at, start, pass}
use Rattle.tok_buffer.specs.View.{IsVisibleDelimiter, one_scope_in_view, view, visible_after}
use Rattle.tok_buffer.proofs.View.Ends.{IsSettled, is_settled, IsFilledPlace, kept-filled}
use Rattle.tok_buffer.proofs.View.Keeps.{of-front, kept-descend, IsDescended, descended-descend}
use Rattle.tok_buffer.proofs.View.Marks.{IsIn, moved-in, in-start, in-content, closes, length-marks}
use Rattle.tok_buffer.proofs.View.Moves.{IsMoved, moved-pass}
use Rattle.tok_buffer.proofs.View.Scopes.{IsScopeEnd, same_end}

-- the buffer, and a scope that ends where one can
abbrev IsScoped : ℕ → Forest → Place → Type 0
IsScoped number f empty_place = ⊤
IsScoped number f (at n s c l ls) = (n ≡ number) × IsScopeEnd f s

-- what each move keeps
pub record Holds (number : ℕ) (f : Forest) (p : Place) : Type 0 where
  pub filled : IsFilledPlace p
  pub inside : IsIn f p
  pub scoped : IsScoped number f p

-- what holds of each place that is reached
pub record Stands (number : ℕ) (f : Forest) (p : Place) : Type 0 where
  pub settled : IsSettled p
  pub holds : Holds number f p

-- Each move keeps these.
filled-past : (t : Tree) (a : Forest) → filled (tree t a) ≡ true → filled a ≡ true
filled-past t a h = (and_parts (filled (tree t no_trees)) (filled a) (rw filled_tree at h)).1

filled-content : (e : Delimiter) → IsVisibleDelimiter e → (inside : Forest) (span : Span)
    (a : Forest) → filled (tree (group e inside span) a) ≡ true → filled inside ≡ true
filled-content delimiter.None v inside span a h = absurd v
filled-content e v inside span a h = (and_parts (filled inside) (filled a) h).0

pub same_tests : (n m s t a b : ℕ) → n ≡ m → (s ≡ t → a ≡ b) → (a ≡ b → s ≡ t)
    → (n == m && s == t) ≡ (a == b)
same_tests n m s t a b e h k = grind (arith, nat_tests)

module _ (number : ℕ) (f : Forest) where
  moved-holds : IsMoved (Holds number f)
  moved-holds = record {
    kept = record {
      into = λ n s c o p inside span a ls h. record {
        filled = kept-filled.into n s c o p inside span a ls h.filled;
        inside = (moved-in f).kept.into n s c o p inside span a ls h.inside;
        scoped = h.scoped;
      };
      out = λ n s c o p l ls h. record {
        filled = kept-filled.out n s c o p l ls h.filled;
        inside = (moved-in f).kept.out n s c o p l ls h.inside;
        scoped = h.scoped;
      };
    };
    past = λ n s c o p t a ls h. record {
      filled = (filled-past t a h.filled.0, h.filled.1);
      inside = (moved-in f).past n s c o p t a ls h.inside;
      scoped = h.scoped;
    };
  }

  descended-settled : (p : Place) → IsDescended p → IsSettled p
  descended-settled empty_place h = tt
  descended-settled (at n s c (frame o p (tree t a)) ls) h = tt
  descended-settled (at n s c (frame o p no_trees) []) h = tt
  descended-settled (at n s c (frame o p no_trees) (l ∷ ls)) h = h

  settled-pass : (p : Place) → IsSettled p → IsSettled (pass p)
  settled-pass empty_place h = h
  settled-pass (at n s c (frame o p no_trees) ls) h = h
  settled-pass (at n s c (frame o p (tree t a)) ls) h =
      is_settled n s (c + tree_weight t) (frame o (tree t p) a) ls

  pub stands-descend : (p : Place) → Stands number f p → Stands number f (descend p)
  stands-descend p h =
      record {
        settled = descended-settled (descend p) (descended-descend p);
        holds = kept-descend (Holds number f) moved-holds.kept p h.holds;
      }

  pub stands-pass : (p : Place) → Stands number f p → Stands number f (pass p)
  stands-pass p h =
      record {
        settled = settled-pass p h.settled;
        holds = moved-pass (Holds number f) moved-holds p h.holds;
      }

  -- the start is one, and so is the empty place
  pub stands-start : filled f ≡ true → Stands number f (start number f)
  stands-start h = record {
    settled = is_settled number (weight f) 0 (frame whole no_trees f) [];
    holds = record {
      filled = (h, tt);
      inside = in-start f number;
      scoped = (refl, inl (sym (length-marks f)));
    };
  }

  pub stands-empty : Stands number f empty_place
  stands-empty = record { settled = tt; holds = record { filled = tt; inside = tt; scoped = tt } }

  -- The content of a visible group, and the place after it.
  abbrev pub BothStand : Entered → Type 0
  BothStand e = Stands number f e.content × Stands number f e.after

  any-stands : (p : Place) → IsDescended p → Stands number f p → IfSome (enter_any p) BothStand
  any-stands empty_place v h = tt
  any-stands (at n s c (frame o p no_trees) ls) v h = tt
  any-stands (at n s c (frame o p (tree (leaf l) a)) ls) v h = tt
  any-stands (at n s c (frame o p (tree (group d inside span) a)) ls) v h =
      let i = h.holds.inside in (
        record {
          settled =
              is_settled n (c + 1 + weight inside) (c + 1)
              (frame (in_group d span) no_trees inside) [];
          holds = record {
            filled = (filled-content d v inside span a h.holds.filled.0, tt);
            inside = in-content f n s c o p d v inside span a ls i;
            scoped = (h.holds.scoped.0, inr (_, closes f n s c o p d v inside span a ls i));
          };
        },
        stands-pass (at n s c (frame o p (tree (group d inside span) a)) ls) h,
      )

  pub stands-enter : (d : Delimiter) (p : Place) → IsVisibleDelimiter d → Stands number f p
      → IfSome (enter d p) BothStand
  stands-enter d p v h =
      of-front BothStand d p v
      (any-stands (descend p) (descended-descend p) (stands-descend p h))

  -- Two places are in one scope exactly where their views are.
  pub scope-view : (p q : Place) → Stands number f p → Stands number f q
      → same_scope p q ≡ one_scope_in_view (view f p) (view f q)
  scope-view empty_place empty_place h k = refl
  scope-view empty_place (at m t d k ks) h i = refl
  scope-view (at n s c l ls) empty_place h i = refl
  scope-view (at n s c l ls) (at m t d k ks) h i =
      same_tests n m s t (visible_after f s) (visible_after f t)
      (h.holds.scoped.0 ∙ sym i.holds.scoped.0) (ap (visible_after f))
      (same_end f s t h.holds.scoped.1 i.holds.scoped.1)
