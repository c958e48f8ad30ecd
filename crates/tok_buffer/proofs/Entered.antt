-- A descent is entering, again and again.
use Rattle.std.proofs.Common.{◌≡◌, ℕ, zero, suc, ◌+◌, ◌≤◌, Bool, true, false, List, [], ◌∷◌}
use Rattle.std.proofs.Common.{refl, arith}
use Rattle.tok_lexical.specs.declared.delimiter.Delimiter.TheVariants as delimiter
use Rattle.tok_core.specs.Forest.{leaf, group, no_trees, tree}
use Rattle.tok_buffer.specs.Descent.{descend, is_before_invisible, inwards, EntersAll, stop}
use Rattle.tok_buffer.specs.Descent.{enters, DescentsEnter}
use Rattle.tok_buffer.specs.Moves.{is_settled}
use Rattle.tok_buffer.specs.Place.{in_group, Frame, frame, Place, empty_place, at, leave_group}
use Rattle.tok_buffer.specs.Place.{leave_finished, settled}
use Rattle.tok_buffer.specs.Progress.{remaining}
use Rattle.tok_buffer.proofs.Descents.{descend-leave_finished, descend_step, descend_done}
use Rattle.tok_buffer.proofs.Onwards.{leave_finished_remaining}

-- no frame is left here
abbrev at_rest : Place → Bool
at_rest empty_place = true
at_rest (at n s c l ls) = is_settled l ls

leave_finished_rests : (n s c : ℕ) (l : Frame) (ls : List Frame)
    → at_rest (leave_finished n s c l ls) ≡ true
leave_finished_rests n s c (frame o p no_trees) [] = refl
leave_finished_rests n s c (frame o p (tree t f)) [] = refl
leave_finished_rests n s c (frame o p no_trees) (u ∷ us) = leave_finished_rests n s (c + 1)
    (leave_group o p u) us
leave_finished_rests n s c (frame o p (tree t f)) (u ∷ us) = refl

-- entering leads from one place to the other, where no invisible group is next
abbrev Enters : Place → Place → Type 0
Enters p q = EntersAll p q × (is_before_invisible q ≡ false)

enters_at_once : (p q : Place) → q ≡ p → is_before_invisible p ≡ false → Enters p q
enters_at_once p q e h = rw e (stop p h, h)

enters_down : (fuel : ℕ) (p : Place) → remaining p ≤ fuel → at_rest p ≡ true → Enters p (descend p)
enters_down fuel empty_place h r = (stop empty_place refl, refl)
enters_down fuel (at n s c (frame o p no_trees) ls) h r =
    enters_at_once _ _ (descend_done n s c (frame o p no_trees) ls r refl) refl
enters_down fuel (at n s c (frame o p (tree (leaf l) f)) ls) h r =
    enters_at_once _ _ (descend_done n s c (frame o p (tree (leaf l) f)) ls r refl) refl
enters_down zero (at n s c (frame o p (tree (group delimiter.None inside span) f)) ls) h r =
    absurd (omega (arith, h))
enters_down (suc k) (at n s c (frame o p (tree (group delimiter.None inside span) f)) ls) h r =
    let here = at n s c (frame o p (tree (group delimiter.None inside span) f)) ls in
    let l = frame (in_group delimiter.None span) no_trees inside in
    let us = frame o p f ∷ ls in
    let e : descend (inwards here) ≡ descend here =
    descend_step n s c (frame o p (tree (group delimiter.None inside span) f)) ls refl in
    let down = enters_down k (inwards here)
    (omega (arith, h, leave_finished_remaining n s (c + 1) l us))
    (leave_finished_rests n s (c + 1) l us) in
    let way : Enters here (descend (inwards here)) =
    (enters here (descend (inwards here)) refl down.0, down.1) in
    rw e at way
enters_down fuel (at n s c (frame o p (tree (group d inside span) f)) ls) h r =
    let done = descend_done n s c (frame o p (tree (group d inside span) f)) ls r refl in
    enters_at_once _ _ done refl

descend-settled : (p : Place) → descend (settled p) ≡ descend p
descend-settled empty_place = refl
descend-settled (at n s c l ls) = descend-leave_finished n s c l ls

settled_rests : (p : Place) → at_rest (settled p) ≡ true
settled_rests empty_place = refl
settled_rests (at n s c l ls) = leave_finished_rests n s c l ls

pub descents_enter : DescentsEnter
descents_enter p =
    rw (← descend-settled p)
    (enters_down (remaining (settled p)) (settled p) (omega arith) (settled_rests p))
