-- What calls have read, one part after another.
use Rattle.std.proofs.Common.{◌≡◌, subst, Bool, arith}
use Rattle.std.proofs.Common.{List, [], ◌∷◌, ◌++◌, Some, None, Ok, Err}
use Rattle.std.specs.Prelude.{◌⊎◌, Result}
use Rattle.std.specs.Result.{IsErrAnd}
use Rattle.tok_core.specs.Forest.{Tree}
use Rattle.tok_buffer.specs.Place.{Place}
use Rattle.tok_buffer.specs.Reads.{read_then, read_if}
use Rattle.tok_buffer.specs.declared.error.Message.{Message}
use Rattle.syn_parse.specs.Faults.{IsMemory, Refuses}
use Rattle.syn_parse.specs.Reads.{TreesRead, Reads, ReadsAtOnce}
use Rattle.syn_parse.specs.State.{State, moved}
use Rattle.syn_parse.specs.declared.fault.Fault.{Fault}

-- at the exit of a `?`
pub at_exit :
    {U : Type 0} (P : Result U Fault → Type 0) (r : Result U Fault) (f : Fault) →
    IsErrAnd r (λ g. g ≡ f) → P (Err f) → P r
at_exit P r f e h = grind arith

module _ {T : Type 0} (Means : T → List Tree → Type 0) (words : Message) (s t : State) where
  -- what a call has read that returned this value
  abbrev pub HasRead : TreesRead → T → Type 0
  HasRead x v = (r : List Tree × Place) × (x ≡ Some r) × Means v r.0 × (t ≡ moved r.1 s)

  pub was_read : (x : TreesRead) (v : T) → Reads Means x words s (Ok v) t → HasRead x v
  was_read x v h = grind arith

  pub was_at_once : (x : TreesRead) (v : T) → ReadsAtOnce Means x words s (Ok v) t → HasRead x v
  was_at_once x v h = grind arith

  pub was_refused :
      (x : TreesRead) (f : Fault) → Reads Means x words s (Err f) t →
      IsMemory f ⊎ ((x ≡ None) × Refuses words f)
  was_refused x f h = grind arith

  pub not_at_once :
      (x : TreesRead) (f : Fault) → ReadsAtOnce Means x words s (Err f) t →
      (x ≡ None) × Refuses words f
  not_at_once x f h = grind arith

-- one read after another
module _ (x : TreesRead) (g : Place → TreesRead) (r : List Tree × Place) (e : x ≡ Some r) where
  pub then_read : (q : List Tree × Place) → g r.1 ≡ Some q → read_then x g ≡ Some (r.0 ++ q.0, q.1)
  then_read q h = grind arith

  pub then_none : g r.1 ≡ None → read_then x g ≡ None
  then_none h = grind arith

-- where a read leads
abbrev pub Leads : (R : Place → Place → Type 0) → Place → TreesRead → Type 0
Leads R p x = (ts : List Tree) (q : Place) → x ≡ Some (ts, q) → R p q

-- what two reads in turn have read
both_read : (x : TreesRead) (g : Place → TreesRead) (ts : List Tree) (r : Place)
    → read_then x g ≡ Some (ts, r)
    → (a : List Tree × Place) × (b : List Tree × Place) × (x ≡ Some a) × (g a.1 ≡ Some b)
    × (b.1 ≡ r)
both_read x g ts r e = grind arith

pub then_leads :
    (R : Place → Place → Type 0) → ((p q r : Place) → R p q → R q r → R p r) → (p : Place)
    (x : TreesRead) (g : Place → TreesRead) → Leads R p x → ((q : Place) → Leads R q (g q)) →
    Leads R p (read_then x g)
then_leads R trans p x g f h ts r e =
    let (a, b, i, k, same) = both_read x g ts r e in
    trans p a.1 r (f a.0 a.1 i) (subst (R a.1) same (h a.1 b.0 b.1 k))

-- a tree that is taken is one
module _ (wanted : Tree → Bool) (p q : Place) (ts : List Tree) where
  abbrev IsOne : Type 0
  IsOne = (t : Tree) × (ts ≡ t ∷ [])

  pub one_taken : read_if wanted p ≡ Some (ts, q) → IsOne
  one_taken e = grind arith
