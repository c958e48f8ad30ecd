-- Forests that are put after others, from their first tree on.
use Rattle.std.proofs.Common.{◌≡◌, ◌∙◌, sym, ap, refl, ℕ, ◌+◌, ◌<◌, List, [], ◌∷◌, ◌++◌, length}
use Rattle.std.proofs.Common.{take, drop, get_or, Ok, Err}
use Rattle.std.proofs.lemmas.List.{take-append-drop, take_more}
use Rattle.std.specs.Prelude.{Result, OnErr, OnOk}
use Rattle.tok_core.specs.declared.stream.TokenTree.{TokenTree}
use Rattle.tok_core.specs.Forest.{AppendsFront, Tree, Forest, no_trees, tree, concat}
use Rattle.tok_core.specs.Seen.{tree_of, trees_of}
use Rattle.tok_core.proofs.Facts.{concat-none, joined_assoc}
use Rattle.tok_core.proofs.Trees.{trees_of_push, trees_of_drop}

-- a failed call that left all as it was
pub none_appended : {T E : Type 0} (r : Result T E) (old : Forest) (t : Tree) (rest : Forest)
    (new : Forest) → OnErr r (new ≡ old) → OnErr r (AppendsFront old (tree t rest) new)
none_appended (Ok x) old t rest new e = e
none_appended (Err x) old t rest new e = (no_trees, t, rest, refl, e ∙ sym (concat-none old))

pub trees_of_append : (ts us : List TokenTree) → trees_of (ts ++ us) ≡ concat (trees_of ts)
    (trees_of us)
trees_of_append [] us = refl
trees_of_append (t ∷ ts) us = ap (tree (tree_of t)) (trees_of_append ts us)

-- a loop over the trees, one tree further
pub trees_of_take : (old : Forest) (ts : List TokenTree) (i : ℕ) (t : TokenTree) →
    i < length ts → t ≡ get_or ts i t → concat (concat old (trees_of (take i ts)))
    (tree (tree_of t) no_trees) ≡ concat old (trees_of (take (i + 1) ts))
trees_of_take old ts i t h is =
    rw (take_more ts i t h, ← is, trees_of_push)
    (joined_assoc old (trees_of (take i ts)) (tree (tree_of t) no_trees))

-- and stopped there
pub some_appended : (old new : Forest) (ts : List TokenTree) (i : ℕ) (t : TokenTree) →
    i < length ts → t ≡ get_or ts i t → new ≡ concat old (trees_of (take i ts)) →
    AppendsFront old (trees_of ts) new
some_appended old new ts i t h is e = (
  trees_of (take i ts),
  tree_of t,
  trees_of (drop (i + 1) ts),
  rw (
    ← (trees_of_drop ts i t h is),
    ← (trees_of_append (take i ts) (drop i ts)),
    take-append-drop,
  ) refl,
  e,
)

-- a front of the first of two values is a front of both
pub front_first : {T E : Type 0} (r : Result T E) (old f g new : Forest) → AppendsFront old f new
    → OnErr r (AppendsFront old (concat f g) new)
front_first (Ok x) old f g new h = tt
front_first (Err x) old f g new h =
    (h.0, h.1, concat h.2 g, rw h.3 (joined_assoc h.0 (tree h.1 h.2) g), h.4)

-- once the first is written, a front of the second is a front of both
pub front_second : {T E : Type 0} (r : Result T E) (old f between g new : Forest)
    → OnErr r (AppendsFront between g new) → between ≡ concat old f
    → OnErr r (AppendsFront old (concat f g) new)
front_second (Ok x) old f between g new h written = h
front_second (Err x) old f between g new h written = (
  concat f h.0,
  h.1,
  h.2,
  rw (h.3, joined_assoc) refl,
  rw (h.4, written) (joined_assoc old f h.0),
)

-- and all of both, if the second is written too
pub on_both : {T E : Type 0} (r : Result T E) (old f between g new : Forest)
    → OnOk r (new ≡ concat between g) → between ≡ concat old f
    → OnOk r (new ≡ concat old (concat f g))
on_both (Ok x) old f between g new h written = rw (h, written) (joined_assoc old f g)
on_both (Err x) old f between g new h written = h
