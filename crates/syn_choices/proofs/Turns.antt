-- Turns of a loop that stays in its scope.
use Rattle.std.proofs.Common.{◌≡◌, ◌-◌, ◌<◌, ◌≤◌, ◌⊎◌, ℕ, arith, inl, inr}
use Rattle.std.proofs.Common.{Bool, true, false, List, Ok, Err, Option, Some}
use Rattle.tok_buffer.specs.Order.{same_scope}
use Rattle.tok_buffer.specs.Place.{Place}
use Rattle.tok_buffer.specs.Progress.{remaining}
use Rattle.syn_parse.proofs.Failing.{stays_along}
use Rattle.syn_parse.proofs.Premises.{given, given_on, under}
use Rattle.syn_parse.proofs.Repeats.{TurnsOf, turns-stuck}
use Rattle.syn_parse.proofs.Scopes.{in_one_scope}
use Rattle.syn_parse.specs.Many.{many_of}
use Rattle.syn_parse.specs.State.{State}
use Rattle.syn_parse.specs.Takes.{Stays}
use Rattle.syn_parse.specs.Takings.{Keeps, Takings, lower, stated}
use Rattle.syn_parse.specs.TreesAhead.{Ahead}
use Rattle.syn_parse.specs.declared.fault.Fault.{Fault}

-- in one scope no more remains where no more is counted
pub no_more : (p q : Place) → same_scope p q ≡ true → remaining q - 1 ≤ remaining p - 1
    → remaining q ≤ remaining p
no_more p q e h = grind arith

-- a stream that stays is in its scope, and no more remains
no_more_elsewhere : (s t : State) → Stays s t → (p : Place) → p ≡ s.place
    → (same_scope p t.place ≡ false) ⊎ (remaining p < remaining t.place) → ⊥
no_more_elsewhere s t h p e k = grind (arith, in_one_scope)

-- a value that takes something leaves a turn for the next one, in the same scope
pub turns_stuck : {T : Type 0} (test : Option (Ahead → Bool)) (takes : Takings T) (s t u : State)
    (vs : List T) (n : ℕ) (v : T) (f : Fault) → TurnsOf test takes s vs t n
    → Keeps takes t (Ok v) u → (p : Place) → p ≡ s.place
    → (n ≡ 0) ⊎ ((same_scope p u.place ≡ false) ⊎ (remaining p < remaining u.place))
    → Keeps (many_of test takes) s (Err f) u
turns_stuck test takes s t u vs n v f so w p e (inl none) =
    turns-stuck test takes s t u vs n v f so w none
turns_stuck (Some test) (stated alone form take (lower less)) s t u vs n v f so w p e (inr other) =
    under alone _ _ (λ i.
    let now = given alone _ _ so i in
    let call = given alone _ _ w (given_on alone _ _ now.stays.0 i) in
    absurd (no_more_elsewhere s u (stays_along s t u now.stays call.1) p e other))
turns_stuck test takes s t u vs n v f so w p e (inr other) = tt
