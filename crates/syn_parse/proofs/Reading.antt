-- How a read, an error and an allocation failure meet the definitions of one-step parsers, and what
-- a peek of the read tells.
use Rattle.std.proofs.Common.{arith, ◌≡◌, refl, List, Option, Some, None, Ok, Err, Bool}
use Rattle.std.proofs.Common.{is_some}
use Rattle.std.proofs.lemmas.Result.{err_from_is_err_and}
use Rattle.std.specs.Prelude.{Result}
use Rattle.std.specs.Result.{IsErrAnd}
use Rattle.std.specs.declared.alloc.AllocError.{AllocError}
use Rattle.tok_core.specs.Forest.{Tree}
use Rattle.tok_buffer.specs.Place.{Place}
use Rattle.tok_buffer.specs.declared.error.Message.{Message}
use Rattle.syn_parse.specs.Faults.{IsMemory, Refuses}
use Rattle.syn_parse.specs.Reads.{Reads, ReadsAtOnce, TreesRead}
use Rattle.syn_parse.specs.State.{State, moved}
use Rattle.syn_parse.specs.declared.fault.Fault.{Fault}
use Rattle.syn_parse.specs.declared.fault.Fault.TheVariants.{Memory}
use Rattle.syn_parse.specs.Laws.{Tells}

module _ {T : Type 0} (Means : T → List Tree → Type 0) (words : Message) (s : State) where
  pub reads-value : (x : Option (List Tree × Place)) (v : T) (ts : List Tree) (q : Place)
      → x ≡ Some (ts, q) → Means v ts → Reads Means x words s (Ok v) (moved q s)
  reads-value x v ts q e m = rw e (m, refl)

  pub reads_refused : (x : Option (List Tree × Place)) (f : Fault) → x ≡ None → Refuses words f
      → Reads Means x words s (Err f) s
  reads_refused x f e r = rw e (r, refl)

  pub reads-memory : (x : Option (List Tree × Place)) (f : Fault) → IsMemory f
      → Reads Means x words s (Err f) s
  reads-memory x f m = grind arith

  -- at the exit of a `?` that wants memory
  pub reads_stops : (x : Option (List Tree × Place)) (r : Result T Fault) (e : AllocError)
      → IsErrAnd r (λ f. f ≡ Memory e) → Reads Means x words s r s
  reads_stops x r e h = grind (arith, err_from_is_err_and, reads-memory)

module _ {T U : Type 0} (Means : T → List Tree → Type 0) (Tells : U → List Tree
    → Type 0) (words : Message) (s : State) where
  -- the same read, by a value that is made of the first
  pub at-once-made : (x : Option (List Tree × Place)) (v : T) (u : U) (t : State)
      → ((ts : List Tree) → Means v ts → Tells u ts) → ReadsAtOnce Means x words s (Ok v) t
      → ReadsAtOnce Tells x words s (Ok u) t
  at-once-made x v u t k h = grind arith

  -- at the exit of a `?`
  pub at-once-stops : (x : Option (List Tree × Place)) (f : Fault) (r : Result U Fault) (t : State)
      → IsErrAnd r (λ g. g ≡ f) → ReadsAtOnce Means x words s (Err f) t
      → ReadsAtOnce Tells x words s r t
  at-once-stops x f r t e h = grind (arith, err_from_is_err_and)

-- a peek of what is read tells what the read does
module _ {T : Type 0} (Means : T → List Tree
    → Type 0) (words : Message) (s t : State) (found : Bool) where
  pub reads_at_once_tell : (x : TreesRead) (r : Result T Fault) → found ≡ is_some x
      → ReadsAtOnce Means x words s r t → Tells found r
  reads_at_once_tell x r e h = grind arith
