-- What is taken if it can be, and else nothing.
use Rattle.std.proofs.Common.{arith, refl}
use Rattle.std.specs.Prelude.{◌≡◌, ◌≤◌, ◌⊎◌, Option, None, Some, option_map, Ok, Err}
use Rattle.std.specs.Prelude.{true, false, codes}
use Rattle.tok_core.specs.Weight.{weight}
use Rattle.tok_buffer.specs.Order.{same_scope}
use Rattle.tok_buffer.specs.declared.error.Message.{Message}
use Rattle.syn_parse.specs.ErrorWords.{refused_at}
use Rattle.syn_parse.specs.Faults.{IsMemory, Refuses}
use Rattle.syn_parse.specs.Lighter.{lightens}
use Rattle.syn_parse.specs.Reads.{Call}
use Rattle.syn_parse.specs.State.{State, advanced, forked}
use Rattle.syn_parse.specs.Takes.{Outcome, Taking, found, missing}
use Rattle.syn_parse.specs.Takings.{Lightens, Takings, Weighs, lighter, stated, untold, unweighed}
use Rattle.syn_parse.specs.Takings.{weighs}
use Rattle.syn_parse.specs.TreesAhead.{Ahead, after_fork, only_trees}
use Rattle.syn_parse.specs.declared.fault.Fault.{Fault}

-- the error of a parser that has moved its stream into another scope
abbrev pub left_scope : State → Message
left_scope s = refused_at s (codes "parser left its stream")

-- A value is parsed on a fork, to whose place the stream goes. If the tokens are rejected there is
-- no value, and the stream stays. It also stays with an error: an allocation failure, or that the
-- fork is in another scope.
abbrev pub Attempts : {T : Type 0} → Call T → Call (Option T)
Attempts parses s (Ok (Some v)) t =
    (fork : State) × parses (forked s) (Ok v) fork
    × (same_scope s.place fork.place ≡ true) × (t ≡ advanced fork s)
Attempts parses s (Ok None) t =
    (e : Fault) × (fork : State) × parses (forked s) (Err e) fork × (IsMemory e → ⊥) × (t ≡ s)
Attempts {T} parses s (Err e) t =
    (((fork : State) × parses (forked s) (Err e) fork × IsMemory e)
    ⊎ ((v : T) × (fork : State) × parses (forked s) (Ok v) fork
    × (same_scope s.place fork.place ≡ false) × Refuses (left_scope s) e))
    × (t ≡ s)

-- what is found on a fork is found; what is missing there is no error
abbrev pub attempt_of : {A : Type 0} → Ahead → Outcome A → Outcome (Option A)
attempt_of a (found v fork) = found (Some v) (after_fork fork a)
attempt_of a (missing m) = found None a

-- a value, or nothing
unfoldable pub take_attempt : {A : Type 0} → Taking A → Taking (Option A)
take_attempt take a = attempt_of a (take (only_trees a.trees))

-- it adds nothing to what is ahead
pub lightens_attempt : {A : Type 0} (take : Taking A) → Lightens take
    → Lightens (take_attempt take)
unfolding take_attempt
lightens_attempt {A} take h = record {
  less = λ a b v e. go a b v (take (only_trees a.trees)) refl e;
} where
  go : (a b : Ahead) (v : Option A) (o : Outcome A) → take (only_trees a.trees) ≡ o
      → attempt_of a o ≡ found v b → weight b.trees ≤ weight a.trees
  go a b v (found w c) e k =
      let n : after_fork c a ≡ b = cc in
      rw (← n) (h.less (only_trees a.trees) c w e)
  go a b v (missing m) e k = let n : a ≡ b = cc in rw (← n) (omega arith)

-- an attempt adds nothing if its value doesn't; it may take nothing
abbrev pub attempt_weighs : {A : Type 0} (take : Taking A) → Weighs take
    → Weighs (take_attempt take)
attempt_weighs take unweighed = unweighed
attempt_weighs take (weighs x h) = lighter (lightens_attempt take (lightens x take h))

-- the value that an attempt of a type takes
abbrev pub attempted : {T : Type 0} → Takings T → Takings (Option T)
attempted untold = untold
attempted (stated alone form take w) =
    stated alone (option_map form) (take_attempt take) (attempt_weighs take w)
