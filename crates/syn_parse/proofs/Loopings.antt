-- A loop's calls, turn by turn.
use Rattle.std.proofs.Common.{◌≡◌, ◌≤◌, ◌-◌, ap, arith, ℕ, ◌+◌, List, [], ◌∷◌}
use Rattle.std.proofs.Common.{◌++◌, Bool, true, false, Ok, Err, Option, length}
use Rattle.std.proofs.lemmas.List.{length-append}
use Rattle.std.specs.Global.{Vec}
use Rattle.std.specs.Prelude.{Result}
use Rattle.tok_core.specs.Weight.{weight}
use Rattle.tok_buffer.specs.Place.{Place}
use Rattle.tok_buffer.specs.Progress.{remaining}
use Rattle.tok_buffer.specs.View.{erased_ahead}
use Rattle.syn_parse.proofs.Repeats.{Tests, TurnsOf, turns-ended, turns-failed, turns-more}
use Rattle.syn_parse.proofs.Repeats.{turns-start, turns-stuck}
use Rattle.syn_parse.specs.Faults.{IsMemory, Refuses}
use Rattle.syn_parse.specs.Loops.{Loops, Parsed, ended, lost, nothing_taken, none_yet, one_more}
use Rattle.syn_parse.specs.Loops.{refused, stuck, tokens_left}
use Rattle.syn_parse.specs.Many.{many_of}
use Rattle.syn_parse.specs.Reads.{Call, Does}
use Rattle.syn_parse.specs.State.{State}
use Rattle.syn_parse.specs.Takings.{Keeps, Takings}
use Rattle.syn_parse.specs.TreesAhead.{Ahead}
use Rattle.syn_parse.specs.declared.fault.Fault.{Fault}

-- values that were parsed and taken, the stream after them, and how many turns are left
pub record Turned {T : Type 0} (goes_on ends : Place → Type 0) (parses : Call T)
    (test : Option (Ahead → Bool)) (takes : Takings T) (s : State) (vs : List T) (t : State)
    (n : ℕ) : Type 0 where
  pub taken : TurnsOf test takes s vs t n
  pub parsed : Parsed goes_on parses s vs t
  pub count : length vs + n ≡ tokens_left s.place

-- before the first value there are as many turns as tokens are left
pub turned-none : {T : Type 0} (goes_on ends : Place → Type 0) (parses : Call T)
    (test : Option (Ahead → Bool)) (takes : Takings T) (s : State) (p : Place) (n : ℕ)
    (vs : List T) → p ≡ s.place → weight (erased_ahead p) ≤ n → n ≡ remaining p - 1 → vs ≡ []
    → Turned goes_on ends parses test takes s vs s n
turned-none goes_on ends parses test takes s p n vs e h k none =
    rw none (record {
      taken = turns-start test takes s n (omega (arith, h, ap (λ q. weight (erased_ahead q)) e));
      parsed = none_yet;
      count = omega (arith, k, ap remaining e);
    })

-- a result is a call of the loop, and keeps what is stated
abbrev Returns : {T : Type 0} → (goes_on ends : Place → Type 0) → Call T → Option (Ahead → Bool)
    → Takings T → Call (Vec T)
Returns goes_on ends parses test takes s r t =
    Does (Loops goes_on ends parses) s r t × Keeps (many_of test takes) s r t

pub loop-ended : {T : Type 0} {goes_on ends : Place → Type 0} {parses : Call T}
    {test : Option (Ahead → Bool)} {takes : Takings T} {s t : State} {n : ℕ} (vs : Vec T)
    → Turned goes_on ends parses test takes s vs.items t n → ends t.place → Tests test takes t false
    → Returns goes_on ends parses test takes s (Ok vs) t
unfolding Does
loop-ended {test} {takes} {s} {t} {n} vs h e w = (
  ended vs t h.parsed e (omega (arith, h.count)),
  turns-ended test takes s t vs n h.taken w,
)

-- where the loop goes on
module _ {T : Type 0} {goes_on ends : Place → Type 0} {parses : Call T}
    {test : Option (Ahead → Bool)} {takes : Takings T} {s t : State} {vs : List T} {n : ℕ}
    (h : Turned goes_on ends parses test takes s vs t n) (i : goes_on t.place) where
  more : (v : T) (u : State) → Does parses t (Ok v) u → Parsed goes_on parses s (vs ++ v ∷ []) u
  unfolding Does
  more v u j = one_more vs t v u h.parsed i j

  pub turned-more : (v : T) (u : State) (m : ℕ) → Tests test takes t true
      → Does parses t (Ok v) u → Keeps takes t (Ok v) u → n ≡ m + 1 → (ws : List T)
      → ws ≡ vs ++ v ∷ [] → Turned goes_on ends parses test takes s ws u m
  turned-more v u m w j k l ws e = grind (arith, turns-more, more, length-append)

  pub loop-refused : (f : Fault) (u : State) → Tests test takes t true → Does parses t (Err f) u
      → Keeps takes t (Err f) u → (r : Result (Vec T) Fault) → r ≡ Err f
      → Returns goes_on ends parses test takes s r u
  unfolding Does
  loop-refused f u w j k r e =
      rw e (refused vs t f u h.parsed i j, turns-failed test takes s t u vs n f h.taken w k)

  pub loop-lost : (v : T) (u : State) (f : Fault) → Does parses t (Ok v) u → IsMemory f
      → (r : Result (Vec T) Fault) → r ≡ Err f → Does (Loops goes_on ends parses) s r u
  unfolding Does
  loop-lost v u f j k r e = rw e (lost vs v f u (more v u j) k)

  pub loop-stuck : (v : T) (u : State) (f : Fault) → Does parses t (Ok v) u
      → Keeps takes t (Ok v) u → n ≡ 0 → Refuses (nothing_taken u) f
      → (r : Result (Vec T) Fault) → r ≡ Err f → Returns goes_on ends parses test takes s r u
  unfolding Does
  loop-stuck v u f j w z k r e =
      rw e (
        stuck (vs ++ v ∷ []) f u (more v u j)
            (omega (arith, length-append vs (v ∷ []), h.count, z)) k,
        turns-stuck test takes s t u vs n v f h.taken w z,
      )
