-- Entering a visible group depends on the view alone.
use Rattle.std.proofs.Common.{◌≡◌, ◌∙◌, sym, ap, refl, ◌+◌, [], Option, Some, None}
use Rattle.std.specs.Prelude.{IfSome, option_map}
use Rattle.tok_lexical.specs.declared.delimiter.Delimiter.{Delimiter}
use Rattle.tok_core.specs.Forest.{leaf, group, Forest, no_trees, tree}
use Rattle.tok_core.specs.Weight.{weight}
use Rattle.tok_buffer.specs.Descent.{descend}
use Rattle.tok_buffer.specs.Entry.{Entered, EnteredWith, enter, enter_any}
use Rattle.tok_buffer.specs.InFront.{entered_ahead, first_group}
use Rattle.tok_buffer.specs.Place.{in_group, frame, Place, empty_place, at, pass}
use Rattle.tok_buffer.specs.View.{entered_view, erased_ahead, IsVisibleDelimiter}
use Rattle.tok_buffer.specs.View.{View, empty_view, seen, view, visible_after}
use Rattle.tok_buffer.proofs.View.Erased.{HasScope, in_scope, scope_of, scope-descend}
use Rattle.tok_buffer.proofs.View.Erased.{erased-pass, leads-scope, view-scope}
use Rattle.tok_buffer.proofs.View.InFront.{tells-enter}
use Rattle.tok_buffer.proofs.View.Keeps.{IsDescended, descended-descend, kept-descend, of-front}
use Rattle.tok_buffer.proofs.View.Marks.{after-content, IsIn, moved-in}
use Rattle.tok_buffer.proofs.View.Tells.{trees_of, trees-view}

-- a group's content, and the group, in a scope
abbrev content_in_view : View → EnteredWith Forest → View
content_in_view empty_view e = empty_view
content_in_view (seen k d f) e = seen (1 + weight e.after + k) e.delimiter e.content

-- a group, and what is inside and after it, in a scope
abbrev entry_in_view : View → EnteredWith Forest → EnteredWith View
entry_in_view v e =
    record {
      delimiter = e.delimiter;
      span = e.span;
      content = content_in_view v e;
      after = in_scope v e.after;
    }

-- the group that is entered in a view
abbrev pub enter_in_view : Delimiter → View → Option (EnteredWith View)
enter_in_view d v = option_map (entry_in_view (scope_of v)) (first_group d (trees_of v))

module _ (g : Forest) (v : View) where
  -- a group whose view is that of the erased trees
  abbrev IsEntered : Entered → Type 0
  IsEntered e = (view g e.content ≡ content_in_view v (entered_ahead e)) × HasScope g v e.after

  front-entered : (p : Place) → IsDescended p → IsIn g p → HasScope g v p
      → IfSome (enter_any p) IsEntered
  front-entered empty_place u i h = tt
  front-entered (at n s c (frame o p no_trees) ls) u i h = tt
  front-entered (at n s c (frame o p (tree (leaf l) f)) ls) u i h = tt
  front-entered (at n s c (frame o p (tree (group d inside span) f)) ls) u i h =
      let q = at n s c (frame o p (tree (group d inside span) f)) ls in
      let content =
      at n (c + 1 + weight inside) (c + 1) (frame (in_group d span) no_trees inside) [] in (
        ap (λ k. seen k d (erased_ahead content))
            (after-content g n s c o p d u inside span f ls i
            ∙ ap (λ a. 1 + weight a + visible_after g s)
            (sym (erased-pass n s c o p (group d inside span) f ls)))
            ∙ ap (λ w. content_in_view w (entered_ahead (record {
              delimiter = d;
              span = span;
              content = content;
              after = pass q;
            }))) h,
        (leads-scope g v).past q (group d inside span) refl h,
      )

  descended-entered : (d : Delimiter) (p : Place) → IsVisibleDelimiter d → IsIn g p
      → HasScope g v p → IfSome (enter d p) IsEntered
  descended-entered d p u i h =
      of-front IsEntered d p u
      (front-entered (descend p) (descended-descend p)
      (kept-descend (IsIn g) (moved-in g).kept p i) (scope-descend g v p h))

  in-view : (r : Option Entered) → IfSome r IsEntered
      → option_map (entered_view g) r
      ≡ option_map (entry_in_view v) (option_map entered_ahead r)
  in-view None h = refl
  in-view (Some e) h = rw (h.0, view-scope g v e.after h.1)

pub view-enter : (g : Forest) (d : Delimiter) (p : Place) → IsVisibleDelimiter d → IsIn g p
    → option_map (entered_view g) (enter d p) ≡ enter_in_view d (view g p)
view-enter g d p u i =
    let v = scope_of (view g p) in
    in-view g v (enter d p) (descended-entered g v d p u i refl)
    ∙ ap (option_map (entry_in_view v))
    (tells-enter d p u ∙ ap (first_group d) (trees-view g p))
