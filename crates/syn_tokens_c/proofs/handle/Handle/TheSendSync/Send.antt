-- What a handle owns says the same to every thread.
use mir.Raw.{raw}
use base.Shift.{Keyless}
use denote.Memory.{lone}
use denote.Param.Send.{IsSend}
use denote.RawPtr.{Ptr}
use Rattle.std.specs.Prelude.{Option, None, Some}
use Rattle.std.proofs.Crossing.{frees}
use Rattle.std_alloc.proofs.SendSync.{lies}
use Rattle.syn_tokens_c.specs.Handed.{heap, holds}
use Rattle.syn_tokens_c.specs.declared.kept.Kept.{Kept}
use Rattle.syn_tokens_c.specs.contracts.handle.Handle.{the_row}
use Rattle.syn_tokens_c.specs.contracts.kept.Kept as kept
use Rattle.syn_tokens_c.proofs.kept.Kept.TheSendSync.{the_send}

held_keyless : (p : Ptr) (x : Option Kept) → Keyless (holds p x)
held_keyless p None = tt
held_keyless p (Some k) =
    (lies kept.the_row the_send p k, frees.frees heap (raw (lone kept.the_row.mir)) p)

pub send : IsSend the_row
send =
    record {
      owned = λ h vs. ((λ vss. (tt, (tt, tt))), held_keyless h.at h.value);
      leaving = λ k d w. tt;
    }
