-- The spans of the visible trees ahead, and so how many they are, and the leftover's span.
use Rattle.std.proofs.Common.{◌≡◌, refl, ℕ, Bool, true, false, List, [], ◌∷◌}
use Rattle.std.proofs.Common.{◌++◌, length, map, Option, Some, None}
use Rattle.std.proofs.lemmas.List.{length-map, map-append}
use Rattle.std.specs.Prelude.{option_map}
use Rattle.tok_leaves.specs.declared.span.Span.{Span}
use Rattle.tok_lexical.specs.declared.delimiter.Delimiter.{Delimiter}
use Rattle.tok_lexical.specs.declared.delimiter.Delimiter.TheVariants as delimiter
use Rattle.tok_core.specs.Erase.{erase}
use Rattle.tok_core.specs.Forest.{Tree, leaf, group, Forest, no_trees, tree, concat, tree_span}
use Rattle.tok_buffer.specs.Ahead.{first_left, visible, marked_ahead, ahead_in}
use Rattle.tok_buffer.specs.InFront.{first_tree_span}
use Rattle.tok_buffer.specs.Place.{Frame, frame, Place, empty_place, at}
use Rattle.tok_buffer.specs.Rest.{scope_delimiter}
use Rattle.tok_buffer.specs.SameView.{leftover_span}
use Rattle.tok_buffer.specs.View.{erased_ahead, erased_in, view}
use Rattle.tok_buffer.proofs.View.Tells.{same_trees}

-- the spans of the trees of a forest
abbrev spans_of : Forest → List Span
spans_of no_trees = []
spans_of (tree t f) = tree_span t ∷ spans_of f

-- the spans of marked trees
abbrev span_list : List (Bool × Tree) → List Span
span_list ts = map (λ t. tree_span t.1) ts

spans-concat : (f g : Forest) → spans_of (concat f g) ≡ spans_of f ++ spans_of g
spans-concat no_trees g = refl
spans-concat (tree t f) g = rw (spans-concat f g)

spans-visible : (b : Bool) (f : Forest) → span_list (visible b f) ≡ spans_of (erase f)
spans-visible b no_trees = refl
spans-visible b (tree (leaf l) f) = rw (spans-visible b f)
spans-visible b (tree (group delimiter.None inside span) f) =
    rw (map-append, spans-visible true inside, spans-visible b f, spans-concat)
spans-visible b (tree (group d inside span) f) = rw (spans-visible b f)

spans-frames : (ls : List Frame) → span_list (ahead_in ls) ≡ spans_of (erased_in ls)
spans-frames [] = refl
spans-frames (frame o p a ∷ ls) =
    rw (map-append, spans-visible false a, spans-frames ls, spans-concat)

spans-ahead : (p : Place) → span_list (marked_ahead p) ≡ spans_of (erased_ahead p)
spans-ahead empty_place = refl
spans-ahead (at n s c l ls) = spans-frames (l ∷ ls)

-- how many trees a forest has, those inside groups aside
abbrev pub tree_count : Forest → ℕ
tree_count f = length (spans_of f)

pub length_ahead : (p : Place) → length (marked_ahead p) ≡ tree_count (erased_ahead p)
length_ahead p = cc (length-map (marked_ahead p) (λ t. tree_span t.1), spans-ahead p)

pub same_length : (f g : Forest) (p q : Place) → view f p ≡ view g q
    → length (marked_ahead p) ≡ length (marked_ahead q)
same_length f g p q e = cc (length_ahead p, same_trees f g p q e, length_ahead q)

-- the first span, if there is one
abbrev first_span : List Span → Option Span
first_span [] = None
first_span (x ∷ xs) = Some x

left-span : (d : Delimiter) (ts : List (Bool × Tree))
    → option_map (λ l. l.span) (first_left d ts) ≡ first_span (span_list ts)
left-span d [] = refl
left-span d (t ∷ ts) = refl

first-span : (f : Forest) → first_span (spans_of f) ≡ first_tree_span f
first-span no_trees = refl
first-span (tree t f) = refl

pub leftover_tells : (p : Place) → leftover_span p ≡ first_tree_span (erased_ahead p)
leftover_tells p =
    cc (left-span (scope_delimiter p) (marked_ahead p), spans-ahead p, first-span (erased_ahead p))
