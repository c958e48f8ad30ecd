-- `none` writes null, at which nothing is owned.
use Rattle.std.proofs.Common.{◌≡◌, [], ◌∷◌, refl, lit<}
use base.Logic.{emp}
use base.Fml.{ftrue}
use types.Kit.{‵, raw, ◌$◌, ◌∵◌, !, qed, by, keep, drop, use0, feq_i}
use types.Run.{lit, no_more, and_then, returns, enter}
use types.ByLocal.{alloc_all, pass_all, free_all, look_at, sets}
use types.Part.{agg}
use contract.Monad.{fact, fact_i}
use denote.RawPtr.{Ptr, null_ptr}
use denote.Steps.{nothing}
use denote.Triple.Entry.{on_entry}
use Rattle.std.proofs.raw_atomic.Walks.{proved, leaves}
use Rattle.std.specs.Prelude.{None}
use Rattle.syn_tokens_c.proofs.Handles.{word, handle_in}
use Rattle.syn_tokens_c.specs.contracts.handle.Handle.{the_row}
use Rattle.syn_tokens_c.specs.contracts.handle.Handle.none.{ended, clauses, signature}
use Rattle.syn_tokens_c.specs.contracts.handle.Handle.none.Key.{name as #self}
use Rattle.syn_tokens_c.proofs.handle.Handle.none.Statement.{statement}
use Rattle.syn_tokens_c.proofs.handle.Handle.none.Code as code

pub none_spec : {M : Type 1} → statement M
none_spec 𝓤 𝓛 𝓜 𝓡 wired =
    let c = clauses 𝓛 𝓜.mem 𝓡.returns in
    let d : the_row.Denot = record { at = null_ptr; value = None } in
    proved 𝓛 ended tt c 𝓜 𝓡 tt #self code.function (code.unfolded 𝓤 𝓛.H 𝓜 𝓡 wired) (λ κs. tt) (λ κs.
    tt) (λ κs qs bounds a _ are.
    qed 𝓛 (raw (on_entry 𝓛 signature κs qs a tt) ∷ ‵ ftrue ∷ []) ∵ drop ! $ drop ! $
    enter ! _ _ _ _ _ $ alloc_all ! (λ l. pass_all ! refl tt $
    sets ! (agg ! (and_then ! (lit ! tt) (no_more !))) refl (tt, (record { fits = lit< tt }, tt)) $
    feq_i ! Ptr null_ptr null_ptr refl $ handle_in ! d $
    use0 𝓛 (raw (fact 𝓤 (d.value ≡ None))) (fact_i 𝓤 (d.value ≡ None) (emp 𝓤) refl) $ nothing ! $
    nothing ! $
    returns ! (look_at ! 0 refl) $ free_all ! refl $ keep ! (1 ∷ 0 ∷ 3 ∷ 2 ∷ []) $
    by ! (leaves 𝓛 ended tt c ((κs, qs, bounds, a, tt), tt) (word null_ptr) d tt tt)))
