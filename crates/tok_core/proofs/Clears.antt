-- Clear forests, one tree at a time.
use Rattle.std.proofs.Common.{◌≡◌, ap, refl, ◌-◌, ◌≤◌, Bool, true, false, not, ◌&&◌}
use Rattle.std.proofs.Math.Bool.{and-false, and_assoc}
use Rattle.std.proofs.Common.{List, [], ◌∷◌, length, get_or, arith}
use Rattle.tok_core.specs.Clear.{clear, tree_clear, ends_joint, is_invisible_group}
use Rattle.tok_core.specs.Clear.{is_joint_apostrophe, starts_invisible}
use Rattle.tok_core.specs.Forest.{Tree, Forest, tree}
use Rattle.tok_core.specs.declared.stream.TokenTree.{TokenTree}
use Rattle.tok_core.specs.Seen.{tree_of, trees_of}

-- what a loop has left to show, after a tree that is a joint apostrophe or none
abbrev pub clear_after : Bool → Forest → Bool
clear_after joint f = not (joint && starts_invisible f) && clear f

clear_tree : (t : Tree) (f : Forest) → clear (tree t f)
    ≡ (tree_clear t && clear_after (is_joint_apostrophe t) f)
clear_tree t f = and_assoc (tree_clear t) (not (is_joint_apostrophe t && starts_invisible f))
    (clear f)

pub clear_edge : (joint : Bool) (t : Tree) (f : Forest) → (joint && is_invisible_group t)
    ≡ true → clear_after joint (tree t f) ≡ false
clear_edge joint t f e = ap (λ b. not b && clear (tree t f)) e

pub clear_torn : (joint : Bool) (t : Tree) (f : Forest) → tree_clear t ≡ false →
    clear_after joint (tree t f) ≡ false
clear_torn joint t f e =
    rw (clear_tree t f, e) (and-false _)

pub clear_later : (joint : Bool) (t : Tree) (f : Forest) → (joint && is_invisible_group t)
    ≡ false → tree_clear t ≡ true → clear_after (is_joint_apostrophe t) f
    ≡ clear_after joint (tree t f)
clear_later joint t f e h =
    rw (e, clear_tree t f, h) refl

-- the last tree decides, whatever stands before the first
ends_joint_more : (before : Bool) (t u : TokenTree) (ts : List TokenTree) →
    ends_joint before (trees_of (t ∷ ts)) ≡ is_joint_apostrophe
    (tree_of (get_or (t ∷ ts) (length ts) u))
ends_joint_more before t u [] = refl
ends_joint_more before t u (v ∷ ts) = ends_joint_more (is_joint_apostrophe (tree_of t)) v u ts

pub ends_joint_last : (ts : List TokenTree) (t : TokenTree) → 1 ≤ length ts →
    t ≡ get_or ts (length ts - 1) t → ends_joint false (trees_of ts) ≡ is_joint_apostrophe
    (tree_of t)
ends_joint_last [] t h is = absurd (omega arith)
ends_joint_last (u ∷ ts) t h is =
    let at : length (u ∷ ts) - 1 ≡ length ts = omega arith in
    let last = ends_joint_more false u t ts in
    cc
