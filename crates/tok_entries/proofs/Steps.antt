-- A tree is taken off the front of entries and texts, and goes to the end of the innermost level.
use Rattle.std.proofs.Common.{◌≡◌, ℕ, ◌+◌, ◌-◌, ◌<◌, ◌≤◌, List, [], ◌∷◌, ◌++◌, length, refl, ap, sym, ◌∙◌, arith}
use Rattle.std.proofs.Common.{append_assoc, length-append}
use Rattle.std.proofs.lemmas.List.{append-nil}
use Rattle.std.proofs.Math.Nat.{le-max_left, le-max_right, max-le}
use Rattle.std.proofs.lemmas.Str.{IsUtf8-append, IsUtf8-nil, IsUtf8-from_ascii, encode_ascii}
use Rattle.std.specs.Prelude.{suc}
use Rattle.std.specs.Str.{IsUtf8}
use Rattle.tok_leaves.specs.Leaves.{Leaf, ident, punct, literal, leaf_text}
use Rattle.tok_core.specs.Building.{Levels, add_forest}
use Rattle.tok_core.specs.Forest.{Tree, leaf, group, Forest, no_trees, tree, concat}
use Rattle.tok_core.specs.Lexical.Items.{depth}
use Rattle.tok_core.proofs.Facts.{concat-none, joined_assoc}
use Rattle.tok_pruned.specs.Pruned.{pruned}
use Rattle.tok_pruned.proofs.Streams.{pruned_parts}
use Rattle.tok_entries.specs.declared.entry.Entry.{Entry}
use Rattle.tok_entries.specs.Denotes.{DenotesFrom}
use Rattle.tok_entries.specs.Entries.{entries, texts, tree_entries, tree_texts, leaf_entry}
use Rattle.tok_entries.specs.Blames.{TakesTree}
use Rattle.tok_entries.specs.Private.Steps.{GoesOn}
use Rattle.tok_entries.specs.Texts.{IsForestIn, IsLeafIn, IsTreeIn}
use Rattle.tok_entries.proofs.Once.{tree_once, punct_is_small}

pub texts_on : (f : Forest) (t : Tree)
    → texts (concat f (tree t no_trees)) ≡ texts f ++ tree_texts t
texts_on no_trees t = append-nil (tree_texts t)
texts_on (tree u g) t =
    cc (texts_on g t, append_assoc (tree_texts u) (texts g) (tree_texts t))

pub entries_on : (at : ℕ) (f : Forest) (t : Tree)
    → entries at (concat f (tree t no_trees)) ≡ entries at f ++ tree_entries
    (at + length (texts f)) t
entries_on at no_trees t =
    let e : at + 0 ≡ at = omega arith in
    cc (append-nil (tree_entries at t))
entries_on at (tree u g) t =
    let e : (at + length (tree_texts u)) + length (texts g)
    ≡ at + length (tree_texts u ++ texts g) =
    omega (arith, length-append (tree_texts u) (texts g)) in
    cc (
      entries_on (at + length (tree_texts u)) g t,
      append_assoc (tree_entries at u) (entries (at + length (tree_texts u)) g)
          (tree_entries ((at + length (tree_texts u)) + length (texts g)) t),
    )

in_on : (f : Forest) (t : Tree) → IsForestIn f → IsTreeIn t
    → IsForestIn (concat f (tree t no_trees))
in_on no_trees t h k = (k, tt)
in_on (tree u f) t (a, b) k = (a, in_on f t b k)

pub first_depth : (t : Tree) (f : Forest) (n : ℕ) → depth (tree t f) ≤ n
    → depth (tree t no_trees) ≤ n
first_depth (leaf l) f n h = omega arith
first_depth (group d i s) f n h =
    max-le (omega (arith, h, le-max_left (suc (depth i)) (depth f))) (omega arith)

pub later_depth : (t : Tree) (f : Forest) (n : ℕ) → depth (tree t f) ≤ n → depth f ≤ n
later_depth (leaf l) f n h = h
later_depth (group d i s) f n h = omega (arith, h, le-max_right (suc (depth i)) (depth f))

both_depth : (t : Tree) (f : Forest) (n : ℕ) → depth (tree t no_trees) ≤ n → depth f ≤ n
    → depth (tree t f) ≤ n
both_depth (leaf l) f n h k = k
both_depth (group d i s) f n h k = max-le (omega (arith, h, le-max_left (suc (depth i)) 0)) k

depth_on : (f : Forest) (t : Tree) (n : ℕ) → depth f ≤ n → depth (tree t no_trees) ≤ n
    → depth (concat f (tree t no_trees)) ≤ n
depth_on no_trees t n h k = k
depth_on (tree u f) t n h k =
    both_depth u (concat f (tree t no_trees)) n (first_depth u f n h)
    (depth_on f t n (later_depth u f n h) k)

pub goes_on : (at levels begin : ℕ) (es ls ks : List Entry) (bs rs qs : List ℕ)
    (old mid new : Levels) (t : Tree) → GoesOn at levels es bs ls rs old mid
    → begin ≡ at + (length bs - length rs) → TakesTree begin levels ls rs t ks qs
    → new ≡ add_forest (pruned (tree t no_trees)) mid → GoesOn at levels es bs ks qs old new
goes_on at levels begin es ls ks bs rs qs old mid new t (f, he, hb, hf, hd, hl) hn (ke, kb, kt, kd)
    hw =
    let e : begin ≡ at + length (texts f) =
    omega (arith, hn, ap length hb, length-append (texts f) rs) in
    let g : Forest = concat f (tree t no_trees) in (
      g,
      cc (append_assoc (entries at f) (tree_entries begin t) ks, entries_on at f t),
      cc (append_assoc (texts f) (tree_texts t) qs, texts_on f t),
      in_on f t hf kt,
      depth_on f t levels hd kd,
      rw (hw, hl) (cc (
        joined_assoc old.inner (pruned f) (pruned (tree t no_trees)),
        pruned_parts f (tree t no_trees),
      )),
    )

pub starts : (at : ℕ) (t : Tree) (ks : List Entry) → tree_entries at t ++ ks ≡ [] → ⊥
starts at (leaf l) ks e =
    let k : length (tree_entries at (leaf l) ++ ks) ≡ 0 = ap length e in
    absurd (omega (arith, k))
starts at (group d f s) ks e =
    let k : length (tree_entries at (group d f s) ++ ks) ≡ 0 = ap length e in
    absurd (omega (arith, k, length-append (tree_entries at (group d f s)) ks))

-- what is behind the tree is what is left of the forest
pub behind_tree : (begin levels : ℕ) (ls ks : List Entry) (rs qs : List ℕ) (t : Tree) (g : Forest)
    → TakesTree begin levels ls rs t ks qs → DenotesFrom begin levels ls rs g
    → (h : Forest) × DenotesFrom (begin + length (tree_texts t)) levels ks qs h
behind_tree begin levels ls ks rs qs t no_trees (ke, kb, kt, kd) (ge, gb, gi, gd) =
    absurd (starts begin t ks (sym ke ∙ ge))
behind_tree begin levels ls ks rs qs t (tree u h) (ke, kb, kt, kd) (ge, gb, (gi, hi), gd) =
    let (same, es, bs) = tree_once begin u t (entries (begin + length (tree_texts u)) h) ks
    (texts h)
    qs (cc) (cc) gi kt in
    (h, (rw same at (sym es), sym bs, hi, later_depth u h levels gd))

-- a leaf is a tree
pub leaf_taken : (begin levels : ℕ) (first : Entry) (after : List Entry) (rs qs : List ℕ) (l : Leaf)
    → IsLeafIn l → first ≡ leaf_entry begin l → rs ≡ leaf_text l ++ qs
    → TakesTree begin levels (first ∷ after) rs (leaf l) after qs
leaf_taken begin levels first after rs qs l h e k =
    (cc, k, h, omega arith)

utf8_punct : (c : ℕ) → c < 128 → IsUtf8 (c ∷ [])
utf8_punct c h = IsUtf8-from_ascii (c ∷ []) (λ i. grind (arith, h))

mutual
  pub utf8_tree : (t : Tree) → IsTreeIn t → IsUtf8 (tree_texts t)
  utf8_tree (leaf (ident t s)) ((u, w), i) = u
  utf8_tree (leaf (literal t s)) ((u, w), i) = u
  utf8_tree (leaf (punct c p s)) (h, i) =
      let small : c < 128 = punct_is_small c h in
      rw (encode_ascii c small) (utf8_punct c small)
  utf8_tree (group d f s) (h, i) = utf8_texts f h

  pub utf8_texts : (f : Forest) → IsForestIn f → IsUtf8 (texts f)
  utf8_texts no_trees h = IsUtf8-nil
  utf8_texts (tree t f) (h, k) =
      IsUtf8-append (tree_texts t) (texts f) (utf8_tree t h) (utf8_texts f k)

-- at the start nothing is taken
pub goes_first : (at levels : ℕ) (es : List Entry) (bs : List ℕ) (old : Levels)
    → GoesOn at levels es bs es bs old old
goes_first at levels es bs old = (
  no_trees,
  refl,
  refl,
  tt,
  omega arith,
  ap (λ x. record { outer = old.outer; inner = x }) (sym (concat-none old.inner)),
)
