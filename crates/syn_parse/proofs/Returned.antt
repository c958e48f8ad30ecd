-- The error of a part is returned.
use Rattle.std.proofs.Common.{◌≡◌, Err}
use Rattle.std.specs.Prelude.{Result}
use Rattle.syn_parse.specs.Reads.{Call}
use Rattle.syn_parse.specs.State.{State}
use Rattle.syn_parse.specs.Takings.{Keeps, Takings}
use Rattle.syn_parse.specs.declared.fault.Fault.{Fault}

pub error_keeps : {T : Type 0} (takes : Takings T) (s t : State) (f : Fault) (r : Result T Fault)
    → r ≡ Err f → Keeps takes s (Err f) t → Keeps takes s r t
error_keeps takes s t f r e h = rw e h

pub error_calls : {T : Type 0} (calls : Call T) (s t : State) (f : Fault) (r : Result T Fault)
    → r ≡ Err f → calls s (Err f) t → calls s r t
error_calls calls s t f r e h = rw e h
