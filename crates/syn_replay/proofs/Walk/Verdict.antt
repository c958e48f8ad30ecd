-- What the end of a stream says, where it is refused.
use Rattle.std.proofs.Common.{◌≡◌, Ok, Err, Result}
use Rattle.std.specs.Prelude.{Option, Some, None, MatchOption}
use Rattle.syn_parse.specs.Faults.{FailsWith}
use Rattle.tok_buffer.specs.Ahead.{Leftover}
use Rattle.syn_parse.specs.ErrorWords.{leftover_message}
use Rattle.syn_parse.specs.declared.fault.Fault.{Fault}
use Rattle.syn_parse.specs.declared.fault.Fault.TheVariants.{Refused}
use Rattle.tok_buffer.specs.declared.error.Error.{Error}
use Rattle.syn_replay.specs.Reports.{accepted, left_over}
use Rattle.tok_buffer.specs.Messages.{first_message}
use Rattle.syn_replay.specs.Meanings.{IsOneMessage}
use Rattle.std.proofs.Common.{arith}

pub verdict_refused : {T : Type 0} (left : Option Leftover) (r : Result T Fault) (v : T) (e : Error)
    → MatchOption left (r ≡ Ok v) (λ l. FailsWith (leftover_message l) r) → r ≡ Err (Refused e)
    → (left_over (first_message e)
    ≡ elim left [ None ↦ accepted | Some l ↦ left_over (leftover_message l) ]) × IsOneMessage e
verdict_refused a0 a1 a2 a3 a4 a5 = grind arith
