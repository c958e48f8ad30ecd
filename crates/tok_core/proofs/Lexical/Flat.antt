-- A forest and its items.
use Rattle.std.proofs.Common.{◌≡◌, ℕ, ◌≤◌, List, [], ◌∷◌, ◌++◌, refl, sym, arith, append_assoc}
use Rattle.tok_lexical.specs.declared.delimiter.Delimiter.{Delimiter}
use Rattle.tok_leaves.specs.Leaves.{Leaf}
use Rattle.tok_core.specs.Forest.{leaf, group, Forest, no_trees, tree, concat}
use Rattle.tok_core.specs.Lexical.Items.{Item, leaf_item, opening, closing, Flat, no_items}
use Rattle.tok_core.specs.Lexical.Items.{leaf_first, group_first, depth}

pub flat_joined : {number : ℕ} {f g : Forest} {xs ys : List Item} → Flat number f xs →
    Flat number g ys → Flat number (concat f g) (xs ++ ys)
flat_joined no_items h = h
flat_joined (leaf_first k) h = leaf_first (flat_joined k h)
flat_joined {ys = ys} (group_first {inner = inner} {items = items} delimiter start end k m) h =
    rw (append_assoc inner (closing delimiter end ∷ items) ys)
    (group_first delimiter start end k (flat_joined m h))

pub depth_joined : (n : ℕ) (f g : Forest) → depth f ≤ n → depth g ≤ n → depth (concat f g) ≤ n
depth_joined n no_trees g a b = b
depth_joined n (tree (leaf l) f) g a b = depth_joined n f g a b
depth_joined n (tree (group delimiter inside span) f) g a b =
    let r = depth_joined n f g (omega arith) b in omega arith

-- nothing follows, or the end of a group
abbrev Ends : List Item → Type 0
Ends [] = Unit {0}
Ends (leaf_item l ∷ items) = ⊥
Ends (opening delimiter start ∷ items) = ⊥
Ends (closing delimiter end ∷ items) = Unit {0}

no_leaf_end : (l : Leaf) (xs ys : List Item) → Ends xs → xs ≡ leaf_item l ∷ ys → ⊥
no_leaf_end l xs ys h g = rw g at h

no_open_end : (delimiter : Delimiter) (start : ℕ) (xs ys : List Item) → Ends xs →
    xs ≡ opening delimiter start ∷ ys → ⊥
no_open_end delimiter start xs ys h g = rw g at h

-- one list of items, one forest
items_tell_forest : {number : ℕ} {one other : Forest} {aa bb : List Item} (xs ys : List Item) →
    Ends xs → Ends ys → Flat number one aa → Flat number other bb → aa ++ xs ≡ bb ++ ys →
    (one ≡ other) × (xs ≡ ys)
items_tell_forest xs ys h k no_items no_items e = (refl, e)
items_tell_forest xs ys h k no_items (leaf_first {l = l} m) e = absurd (no_leaf_end l xs _ h e)
items_tell_forest xs ys h k no_items (group_first delimiter start end m n) e =
    absurd (no_open_end delimiter start xs _ h e)
items_tell_forest xs ys h k (leaf_first {l = l} m) no_items e =
    absurd (no_leaf_end l ys _ k (sym e))
items_tell_forest xs ys h k (leaf_first m) (leaf_first m') e =
    let r = items_tell_forest xs ys h k m m' (cc) in (cc, r.1)
items_tell_forest xs ys h k (leaf_first m) (group_first delimiter start end n p) e = absurd (cc)
items_tell_forest xs ys h k (group_first delimiter start end m n) no_items e =
    absurd (no_open_end delimiter start ys _ k (sym e))
items_tell_forest xs ys h k (group_first delimiter start end m n) (leaf_first p) e = absurd (cc)
items_tell_forest xs ys h k
    (group_first {inner = inner} {items = items} d s t m n)
    (group_first {inner = inner'} {items = items'} d' s' t' m' n') e =
    let i = items_tell_forest (closing d t ∷ items ++ xs) (closing d' t' ∷ items' ++ ys) tt tt m m'
    (cc (
      append_assoc inner (closing d t ∷ items) xs,
      append_assoc inner' (closing d' t' ∷ items') ys,
    )) in
    let r = items_tell_forest xs ys h k n n' (cc) in (cc, r.1)

pub one_forest : {number : ℕ} {one other : Forest} {items : List Item} → Flat number one items →
    Flat number other items → one ≡ other
one_forest m n = (items_tell_forest [] [] tt tt m n refl).0
