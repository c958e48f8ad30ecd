-- A parse of a list that returns one passes the list's trees.
use Rattle.std.proofs.Common.{◌≡◌, Bool, true, List, Ok, Err}
use Rattle.std.specs.Prelude.{IfOk, Result}
use Rattle.tok_core.specs.Forest.{Tree}
use Rattle.tok_buffer.specs.Place.{Place, is_at_end}
use Rattle.syn_parse.specs.Reads.{Call}
use Rattle.syn_parse.specs.State.{State}
use Rattle.syn_parse.specs.declared.fault.Fault.{Fault}
use Rattle.syn_punctuated.specs.Trees.{ListsHaveTheirTrees, PassesList, StatesTrees}
use Rattle.syn_punctuated.specs.Turns.{terminated, IsPlainRun}
use Rattle.syn_punctuated.specs.declared.punctuated.Punctuated.{Punctuated}

module _ {T P : Type 0} (values : T → List (List Tree)) (separators : P → List (List Tree))
    (value_parses : Call T) (separator_parses : Call P) (peeks : Place → Bool → Type 0)
    (law : ListsHaveTheirTrees values separators value_parses separator_parses peeks)
    (told : StatesTrees value_parses values) (parts : StatesTrees separator_parses separators) where
  pub both_if_ok : (s t : State) (r : Result (Punctuated T P) Fault)
      → IsPlainRun terminated value_parses separator_parses s r t
      → IfOk r (λ list. PassesList values separators list s t)
      × IfOk r (λ _. is_at_end t.place ≡ true)
  both_if_ok s t (Ok list) run = (law told parts s t list).0 run
  both_if_ok s t (Err e) run = (tt, tt)
