-- What is missing in a part is missing in the whole; and streams that stay in their scope.
use Rattle.std.proofs.Common.{◌≡◌, refl, arith}
use Rattle.std.specs.declared.alloc.AllocError.{AllocError}
use Rattle.tok_core.specs.Forest.{Forest}
use Rattle.tok_leaves.specs.declared.span.Span.{Span}
use Rattle.syn_parse.specs.declared.fault.Fault.{Fault}
use Rattle.syn_parse.specs.declared.fault.Fault.TheVariants.{Memory}
use Rattle.syn_parse.specs.Positions.{Missing}
use Rattle.syn_parse.specs.State.{State}
use Rattle.syn_parse.specs.Takes.{FailsAt, Outcome, SaysFound, Stays, missing}

-- of an allocation failure nothing is said
pub says_memory : {A : Type 0} (trees : Forest) (scope : Span) (o : Outcome A) (e : AllocError)
    → SaysFound trees scope o (Memory e)
says_memory trees scope o e = grind arith

pub stays_here : (s : State) → Stays s s
stays_here s = (λ i. i, refl, omega arith, refl, refl)

pub stays_along : (s t u : State) → Stays s t → Stays t u → Stays s u
stays_along s t u h k = grind arith

module _ {A B : Type 0} (o : Outcome A) (q : Outcome B)
    (then : (m : Missing) → o ≡ missing m → q ≡ missing m) where
  pub fails_on : (f : Fault) (s t : State) → Stays s t → FailsAt t o f → FailsAt s q f
  fails_on f s t stays h = grind arith
