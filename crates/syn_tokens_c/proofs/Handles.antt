-- The machine value of a `Handle`, and what one owns.
use Rattle.std.proofs.Common.{◌≡◌, List, [], ◌∷◌, ◌++◌, refl, ap, ◌∙◌}
use seplogic.Ra.Ura.{Ura}
use mir.Val.{Val, vstruct, vcons, vnil, of_list}
use types.Logic.{Logic}
use types.Kit.{Item, Goal, Seq, Step, step, ‵, ◌$◌, drop, fsplit, fjoin, fpick, fpack, feq_i, feq_l}
use denote.RattleType.{Valss}
use denote.Builtin.{RawPtr}
use denote.RawPtr.{Ptr, ptr_val}
use denote.Steps.{nothing}
use denote.Struct.Struct.{within}
use denote.Struct.Owning.{shape}
use base.Logic.{via, guard_i, fst∗, snd∗, never}
use types.Logic.{sem}
use types.Kit.{given, learn, use1}
use mir.Raw.{raw as bare}
use contract.Monad.{fact_use}
use denote.Memory.{lone}
use denote.RawPtr.{Testable, block_ptr, null_ptr, in_a_block}
use Rattle.core.specs.Ptr.{points_to}
use Rattle.std.specs.Prelude.{ℕ, Option, None, Some}
use Rattle.std.specs.declared.alloc.Global.{Global}
use Rattle.std.proofs.GlobalToken.{dealloc_token-Testable}
use Rattle.std_alloc.specs.Box.Ownership.{box_owns}
use Rattle.syn_tokens_c.specs.Handed.{holds, may_free}
use Rattle.syn_tokens_c.specs.declared.kept.Kept.{Kept}
use Rattle.syn_tokens_c.specs.contracts.kept.Kept as kept
use Rattle.syn_tokens_c.specs.contracts.handle.Handle.{the_row, the_type}

abbrev pub word : Ptr → Val
word p = vstruct (vcons (ptr_val p) vnil)

module _ {M : Type 1} {𝓤 : Ura M} {𝓛 : Logic 𝓤} {K : Type 0} {Γ : List
    (Item 𝓤)} {G : Goal 𝓤 𝓛.H} where
  pub handle_out : K → (d : the_row.Denot) (vs : List Val) → (vs ≡ word d.at ∷ []
      → Seq K 𝓛 (‵ (holds d.at d.value) ∷ Γ) G)
      → Seq K 𝓛 (‵ (the_row.own_val d vs) ∷ Γ) G
  handle_out t d vs k =
      fsplit t $ fpick t (λ vss. fsplit t $ feq_l t (λ ev. fsplit t $ feq_l t (λ ep. drop t $
      k (ev ∙ ap (λ (ps : List Val). vstruct (of_list (ps ++ [])) ∷ []) ep))))

  pub handle_in : K → (d : the_row.Denot)
      → Step K 𝓛 (‵ (the_row.own_val d (word d.at ∷ [])) ∷ Γ) G (‵ (holds d.at d.value) ∷ Γ) G
  handle_in t d = step (λ s.
      nothing t $ feq_i t (List Val) (ptr_val d.at ∷ []) (ptr_val d.at ∷ []) refl $ fjoin t $
      feq_i t (List Val) (word d.at ∷ []) (word d.at ∷ []) refl $ fjoin t $
      fpack t (Valss (RawPtr ∷ [])) (within (shape the_type) (d.at, tt) (word d.at ∷ []))
      (ptr_val d.at ∷ [], tt) $ fjoin t $ s)

  -- what is held is nothing, at null, or a box, whose pointer may be compared with null
  pub by_value : K → (a : Global) (p : Ptr) (x : Option Kept) → (p ≡ null_ptr → x ≡ None
      → Seq K 𝓛 Γ G)
      → ((b o : ℕ) (y : Kept) → p ≡ block_ptr b o → x ≡ Some y → Testable (block_ptr b o)
      → Seq K 𝓛 (‵ (box_owns may_free kept.the_row (block_ptr b o) y) ∷ Γ) G)
      → Seq K 𝓛 (‵ (holds p x) ∷ Γ) G
  by_value t a p None k j = feq_l t (λ e. k e refl)
  by_value t a p (Some y) k j =
      in_a_block t p (λ π. box_owns may_free kept.the_row π y) (fst∗ 𝓤 (never 𝓤)
      (sem 𝓛 (may_free (bare (lone kept.the_row.mir)) null_ptr))) (λ b o e.
      use1 𝓛 (given (Testable (block_ptr b o))
      (‵ (box_owns may_free kept.the_row (block_ptr b o) y)))
      (fact_use 𝓤 (Testable (block_ptr b o)) (via 𝓤 (sem 𝓛 (may_free (bare (lone kept.the_row.mir))
      (block_ptr b o)))
      (snd∗ 𝓤 (sem 𝓛 (points_to kept.the_row (block_ptr b o) y))
      (sem 𝓛 (may_free (bare (lone kept.the_row.mir)) (block_ptr b o))))
      (dealloc_token-Testable 𝓛 a (bare (lone kept.the_row.mir)) (block_ptr b o)))
      (guard_i 𝓤 (Testable (block_ptr b o))
      (sem 𝓛 (box_owns may_free kept.the_row (block_ptr b o) y)))) $
      learn t (λ tests. j b o y e refl tests))
