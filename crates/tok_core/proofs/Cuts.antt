-- What happens to the levels in one list of trees when a leaf, an opening or a closing comes.
use Rattle.std.proofs.Common.{◌≡◌, ap, refl, ℕ, ◌≤◌, List, [], ◌∷◌, ◌++◌, length, take, drop}
use Rattle.std.proofs.Common.{arith, true, length-append}
use Rattle.std.proofs.lemmas.Bool.{le-leb, leb-true, and_parts}
use Rattle.std.specs.Prelude.{nat_le, reverse}
use Rattle.std.proofs.lemmas.List.{take-append-le, drop-append-le, length-take-le, reverse-append}
use Rattle.tok_core.specs.declared.stream.TokenTree.{TokenTree}
use Rattle.tok_lexical.specs.declared.delimiter.Delimiter.{Delimiter}
use Rattle.tok_leaves.specs.Leaves.{Leaf}
use Rattle.tok_leaves.specs.declared.span.Span.{Span}
use Rattle.tok_core.specs.Building.{Levels, add_forest, add_leaf, Closes}
use Rattle.tok_core.specs.Forest.{Forest, group, leaf, no_trees, tree}
use Rattle.tok_core.specs.Seen.{tree_of, trees_of}
use Rattle.tok_core.specs.Private.Cuts.{levels_in, is_in_order}
use Rattle.tok_core.proofs.Trees.{trees_of_push}

-- the same order holds within more trees
pub order_more : (starts : List ℕ) (n m : ℕ) → n ≤ m → is_in_order starts n ≡ true →
    is_in_order starts m ≡ true
order_more [] n m l h = refl
order_more (s ∷ starts) n m l h =
    let both = and_parts (nat_le s n) (is_in_order starts s) h in
    let low = leb-true s n both.0 in
    rw (le-leb s m (omega arith)) both.1

pub add_one : (starts : List ℕ) (trees : List TokenTree) (t : TokenTree) →
    is_in_order starts (length trees) ≡ true → levels_in starts (trees ++ t ∷ [])
    ≡ add_forest (tree (tree_of t) no_trees) (levels_in starts trees)
add_one [] trees t h = ap (λ f. record { outer = []; inner = f }) (trees_of_push trees t)
add_one (s ∷ starts) trees t h =
    let both = and_parts (nat_le s (length trees)) (is_in_order starts s) h in
    let low = leb-true s (length trees) both.0 in
    rw (take-append-le s trees (t ∷ []) low, drop-append-le s trees (t ∷ []) low, trees_of_push)

pub order_one : (starts : List ℕ) (trees : List TokenTree) (t : TokenTree) →
    is_in_order starts (length trees) ≡ true → is_in_order starts (length (trees ++ t ∷ []))
    ≡ true
order_one starts trees t h = order_more starts (length trees) (length (trees ++ t ∷ []))
    (omega (arith, length-append trees (t ∷ []))) h

pub leaf_order : (starts : List ℕ) (trees new : List TokenTree) (t : TokenTree) →
    is_in_order (reverse starts) (length trees) ≡ true → new ≡ trees ++ t ∷ [] →
    is_in_order (reverse starts) (length new) ≡ true
leaf_order starts trees new t h n = rw n (order_one (reverse starts) trees t h)

pub leaf_one : (starts : List ℕ) (trees new : List TokenTree) (t : TokenTree) (l : Leaf)
    (old : Levels) → is_in_order (reverse starts) (length trees) ≡ true → new ≡ trees ++ t ∷ [] →
    levels_in (reverse starts) trees ≡ old → tree_of t ≡ leaf l →
    levels_in (reverse starts) new ≡ add_leaf l old
leaf_one starts trees new t l old h n v e =
    rw (n, ← v, ← e) (add_one (reverse starts) trees t h)

last_first : (starts new : List ℕ) (s : ℕ) → new ≡ starts ++ s ∷ [] → reverse new
    ≡ s ∷ reverse starts
last_first starts new s e = rw e (reverse-append starts (s ∷ []))

-- no level is open
pub none_open : (starts : List ℕ) (trees : List TokenTree) → (levels_in starts trees).outer ≡ [] →
    trees_of trees ≡ (levels_in starts trees).inner
none_open [] trees h = refl
none_open (s ∷ starts) trees h =
    absurd (omega (
      arith,
      ap length h,
      length-append (levels_in starts (take s trees)).outer
          ((levels_in starts (take s trees)).inner ∷ []),
    ))

pub start_within : (starts left : List ℕ) (trees : List TokenTree) (s : ℕ) →
    starts ≡ left ++ s ∷ [] → is_in_order (reverse starts) (length trees) ≡ true →
    s ≤ length trees
start_within starts left trees s e h =
    let o = rw (last_first left starts s e) at h in
    leb-true s (length trees)
    (and_parts (nat_le s (length trees)) (is_in_order (reverse left) s) o).0

around_order : (starts left : List ℕ) (trees : List TokenTree) (s : ℕ) →
    starts ≡ left ++ s ∷ [] → is_in_order (reverse starts) (length trees) ≡ true →
    is_in_order (reverse left) (length (take s trees)) ≡ true
around_order starts left trees s e h =
    let o = rw (last_first left starts s e) at h in
    let l = length-take-le s trees (start_within starts left trees s e h) in
    rw l (and_parts (nat_le s (length trees)) (is_in_order (reverse left) s) o).1

pub close_order : (starts left : List ℕ) (trees kept new : List TokenTree) (s : ℕ) (t : TokenTree) →
    starts ≡ left ++ s ∷ [] → is_in_order (reverse starts) (length trees) ≡ true →
    kept ≡ take s trees → new ≡ kept ++ t ∷ [] → is_in_order (reverse left) (length new) ≡ true
close_order starts left trees kept new s t e h k n =
    rw (n, k) (order_one (reverse left) (take s trees) t (around_order starts left trees s e h))

pub close_one : (starts left : List ℕ) (trees kept new : List TokenTree) (s : ℕ) (t : TokenTree)
    (delimiter : Delimiter) (inside : Forest) (span : Span) (old : Levels) →
    starts ≡ left ++ s ∷ [] → is_in_order (reverse starts) (length trees) ≡ true →
    kept ≡ take s trees → new ≡ kept ++ t ∷ [] → levels_in (reverse starts) trees ≡ old →
    inside ≡ trees_of (drop s trees) → tree_of t ≡ group delimiter inside span →
    Closes delimiter span old (levels_in (reverse left) new)
close_one starts left trees kept new s t delimiter inside span old e h k n v i g =
    let around = levels_in (reverse left) (take s trees) in
    let was = rw (last_first left starts s e) at v in
    let now = add_one (reverse left) (take s trees) t (around_order starts left trees s e h) in
    (around.inner, rw (n, k, now, ← was) refl, rw (n, k, now, g, i, ← was) refl)
