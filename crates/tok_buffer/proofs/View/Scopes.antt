-- Scopes of one forest differ in what is visible after them.
use Rattle.std.proofs.Common.{◌≡◌, ◌∙◌, ap, ℕ, suc, ◌+◌, ◌-◌, ◌<◌, ◌≤◌, ◌⊎◌, inl, inr, List, ◌∷◌}
use Rattle.std.proofs.Common.{length, drop, sum, arith, drop-drop, length-drop}
use Rattle.std.proofs.lemmas.List.Sums.{sum_by-take-drop}
use Rattle.tok_core.specs.Forest.{Forest}
use Rattle.tok_buffer.specs.View.{visible_after, visible_marks}
use Rattle.tok_buffer.proofs.View.Marks.{sum-one}
use Rattle.std.proofs.lemmas.Bool.{cases_order}

-- a scope ends where the whole forest does, or at the closing of a visible group
abbrev pub IsScopeEnd : Forest → ℕ → Type 0
IsScopeEnd g s =
    (s ≡ length (visible_marks g)) ⊎ ((rest : List ℕ) × (drop s (visible_marks g) ≡ 1 ∷ rest))

module _ (g : Forest) where
  within : (s : ℕ) → IsScopeEnd g s → s ≤ length (visible_marks g)
  within s (inl e) = omega arith
  within s (inr r) = let size = length-drop s (visible_marks g) in let more = ap length r.1 in
      omega arith

  falls : (s t : ℕ) → IsScopeEnd g s → IsScopeEnd g t → s < t
      → visible_after g t < visible_after g s
  falls s t (inl e) b h = let small = within t b in absurd (omega arith)
  falls s t (inr r) b h =
      let k = t - s - 1 in
      let split : s + suc k ≡ t = omega arith in
      let later : visible_after g t ≡ sum (drop k r.0) =
      cc (split, drop-drop (suc k) s (visible_marks g), r.1) in
      let here = ap sum r.1 ∙ sum-one r.0 in
      let parts = sum_by-take-drop (λ x. x) r.0 k in omega arith

  pub same_end : (s t : ℕ) → IsScopeEnd g s → IsScopeEnd g t
      → visible_after g s ≡ visible_after g t → s ≡ t
  same_end s t a b e =
      elim (cases_order s t) [
        | inl same ↦ same
        | inr (inl less) ↦ let more = falls s t a b less in absurd (omega arith)
        | inr (inr less) ↦ let more = falls t s b a less in absurd (omega arith)
      ]
