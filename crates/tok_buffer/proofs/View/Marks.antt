-- What is ahead of a place, and what comes after its scope, among the marks of the forest.
use Rattle.std.proofs.Common.{◌≡◌, ◌∙◌, ap, refl, ℕ, zero, suc, ◌+◌, List, [], ◌∷◌, ◌++◌}
use Rattle.std.proofs.Common.{length, drop, sum, arith, add-one, append_assoc, append-nil}
use Rattle.std.proofs.Common.{length-append, drop-drop, drop_at, le_of_eq}
use Rattle.std.specs.Prelude.{⊤}
use Rattle.std.proofs.lemmas.List.{drop_all}
use Rattle.std.proofs.lemmas.List.Sums.{sum_by-append}
use Rattle.tok_leaves.specs.declared.span.Span.{Span}
use Rattle.tok_lexical.specs.declared.delimiter.Delimiter.{Delimiter}
use Rattle.tok_lexical.specs.declared.delimiter.Delimiter.TheVariants as delimiter
use Rattle.tok_core.specs.Erase.{erase}
use Rattle.tok_core.specs.Forest.{Tree, leaf, group, Forest, no_trees, tree, concat}
use Rattle.tok_core.specs.Weight.{weight, tree_weight}
use Rattle.tok_buffer.specs.Place.{Enclosing, whole, in_group, Frame, frame, Place, empty_place, at}
use Rattle.tok_buffer.specs.Place.{start, leave_group}
use Rattle.tok_buffer.specs.View.{erased_in, IsVisibleDelimiter, visible_marks, visible_after}
use Rattle.tok_buffer.proofs.View.Moves.{IsMoved}

sum-append : (xs ys : List ℕ) → sum (xs ++ ys) ≡ sum xs + sum ys
sum-append xs ys = sum_by-append (λ x. x) xs ys

pub sum-one : (xs : List ℕ) → sum (1 ∷ xs) ≡ 1 + sum xs
sum-one xs = sum-append (1 ∷ []) xs

pub weight-concat : (f g : Forest) → weight (concat f g) ≡ weight f + weight g
weight-concat no_trees g = omega arith
weight-concat (tree t f) g = omega (arith, weight-concat f g)

pub sum-marks : (f : Forest) → sum (visible_marks f) ≡ weight (erase f)
sum-marks no_trees = refl
sum-marks (tree (leaf l) f) = omega (arith, sum-marks f, sum-one (visible_marks f))
sum-marks (tree (group delimiter.None inside span) f) =
    omega (arith, sum-marks inside, sum-marks f, sum-append, weight-concat)
sum-marks (tree (group d inside span) f) =
    omega (arith, sum-marks inside, sum-marks f, sum-append, sum-one)

pub length-marks : (f : Forest) → length (visible_marks f) ≡ weight f
length-marks no_trees = refl
length-marks (tree (leaf l) f) = omega (arith, length-marks f)
length-marks (tree (group delimiter.None inside span) f) =
    omega (arith, length-marks inside, length-marks f, length-append {A = ℕ})
length-marks (tree (group d inside span) f) =
    omega (arith, length-marks inside, length-marks f, length-append {A = ℕ})

pub marks-tree : (t : Tree) (a : Forest)
    → visible_marks (tree t a) ≡ visible_marks (tree t no_trees) ++ visible_marks a
marks-tree (leaf l) a = refl
marks-tree (group delimiter.None inside span) a =
    rw (append_assoc (visible_marks inside) (0 ∷ []) (visible_marks a))
marks-tree (group d inside span) a =
    rw (append_assoc (visible_marks inside) (1 ∷ []) (visible_marks a))

pub marks-group : (d : Delimiter) → IsVisibleDelimiter d → (inside : Forest) (span : Span)
    (a : Forest) → visible_marks (tree (group d inside span) a)
    ≡ 1 ∷ (visible_marks inside ++ (1 ∷ visible_marks a))
marks-group delimiter.None v inside span a = absurd v
marks-group d v inside span a = refl

-- the marks of what the frames around have ahead
abbrev pub marks_beyond : List Frame → List ℕ
marks_beyond [] = []
marks_beyond (frame o p a ∷ ls) = 0 ∷ (visible_marks a ++ marks_beyond ls)

sum-beyond : (ls : List Frame) → sum (marks_beyond ls) ≡ weight (erased_in ls)
sum-beyond [] = refl
sum-beyond (frame o p a ∷ ls) = omega (arith, sum-append, sum-marks a, sum-beyond ls, weight-concat)

drop_next : (c : ℕ) (xs : List ℕ) (x : ℕ) (ys : List ℕ) → drop c xs ≡ x ∷ ys → drop (c + 1) xs ≡ ys
drop_next c xs x ys e = rw add-one (go c xs e) where
  go : (k : ℕ) (zs : List ℕ) → drop k zs ≡ x ∷ ys → drop (suc k) zs ≡ ys
  go zero [] h = absurd (cc)
  go zero (z ∷ zs) h = cc
  go (suc k) [] h = absurd (cc)
  go (suc k) (z ∷ zs) h = go k zs h

pub drop_past : (c k : ℕ) (xs ys zs : List ℕ) → drop c xs ≡ ys ++ zs → length ys ≡ k
    → drop (c + k) xs ≡ zs
drop_past c k xs ys zs e h = cc (drop-drop k c xs, drop_at ys zs k h)

module _ (g : Forest) where
  -- after the place's count comes what it has ahead, and then what comes after the scope
  abbrev pub IsIn : Place → Type 0
  IsIn empty_place = ⊤
  IsIn (at n s c (frame o p a) ls) =
      drop c (visible_marks g)
      ≡ visible_marks a ++ (marks_beyond ls ++ drop s (visible_marks g))

  in-leave_group : (n s c : ℕ) (o : Enclosing) (p : Forest) (l : Frame) (ls : List Frame)
      → drop c (visible_marks g) ≡ marks_beyond (l ∷ ls) ++ drop s (visible_marks g)
      → IsIn (at n s (c + 1) (leave_group o p l) ls)
  in-leave_group n s c whole p (frame o a b) ls e =
      drop_next c (visible_marks g) 0 _ e ∙ append_assoc (visible_marks b) (marks_beyond ls) _
  in-leave_group n s c (in_group d span) p (frame o a b) ls e =
      drop_next c (visible_marks g) 0 _ e ∙ append_assoc (visible_marks b) (marks_beyond ls) _

  pub moved-in : IsMoved IsIn
  moved-in = record {
    kept = record {
      into = λ n s c o p inside span f ls h.
          drop_next c (visible_marks g) 0 _ h ∙ simp append_assoc;
      out = λ n s c o p l ls h. in-leave_group n s c o p l ls h;
    };
    past = λ n s c o p t a ls h.
        drop_past c (tree_weight t) (visible_marks g) (visible_marks (tree t no_trees)) _
        (rw (marks-tree t a, append_assoc) at h)
        (omega (arith, length-marks (tree t no_trees)));
  }

  nothing_after : drop (weight g) (visible_marks g) ≡ []
  nothing_after = drop_all (weight g) (visible_marks g) (le_of_eq (length-marks g))

  pub in-start : (n : ℕ) → IsIn (start n g)
  in-start n = rw (nothing_after, append-nil)

  pub after-start : visible_after g (weight g) ≡ 0
  after-start = rw nothing_after

  -- at a visible group: what comes after its opening, and from its closing on
  module _ (n s c : ℕ) (o : Enclosing) (p : Forest) (d : Delimiter) (v : IsVisibleDelimiter d)
      (inside : Forest) (span : Span) (a : Forest) (ls : List Frame)
      (h : IsIn (at n s c (frame o p (tree (group d inside span) a)) ls)) where
    pub opened : drop (c + 1) (visible_marks g)
        ≡ visible_marks inside
        ++ (1 ∷ (visible_marks a ++ (marks_beyond ls ++ drop s (visible_marks g))))
    opened =
        drop_next c (visible_marks g) 1 _ (rw (marks-group d v inside span a) at h)
        ∙ append_assoc (visible_marks inside) (1 ∷ visible_marks a) _

    pub closes : drop (c + 1 + weight inside) (visible_marks g)
        ≡ 1 ∷ (visible_marks a ++ (marks_beyond ls ++ drop s (visible_marks g)))
    closes =
        drop_past (c + 1) (weight inside) (visible_marks g) (visible_marks inside) _ opened
        (length-marks inside)

    pub in-content : IsIn
        (at n (c + 1 + weight inside) (c + 1) (frame (in_group d span) no_trees inside) [])
    in-content = rw closes opened

    -- after the content's scope come its closing, what is ahead, and what comes after the scope
    pub after-content : visible_after g (c + 1 + weight inside)
        ≡ 1 + weight (concat (erase a) (erased_in ls)) + visible_after g s
    after-content =
        omega (arith, ap sum closes, sum-one, sum-append, sum-marks, sum-beyond, weight-concat)
