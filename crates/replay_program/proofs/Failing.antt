-- Calls, and one more.
use Rattle.std.proofs.Common.{◌≡◌, ℕ, suc, ◌+◌, List, ◌++◌, Result, arith}
use Rattle.std.specs.declared.io.Error.{Error}
use Rattle.replay_program.specs.Failures.{ByteCall, GoesOn, Moves}

module _ {S : Type 0} (calls : ByteCall S) (s : S) where
  -- so many calls, of which the loop has counted each, moved these bytes
  abbrev pub Counted : ℕ → List ℕ → S → Type 0
  Counted i bytes t = (n : ℕ) × (n ≡ i) × Moves calls n s bytes t

  pub one_more : (i : ℕ) (front : List ℕ) (mid : S) (r : Result ℕ Error) (more : List ℕ) (t : S)
      → Counted i front mid → calls mid r more t → GoesOn r → (bytes : List ℕ)
      → bytes ≡ front ++ more → Counted (i + 1) bytes t
  one_more i front mid r more t h call goes bytes e =
      (suc h.0, omega (arith, h.1), (mid, r, front, more, h.2, call, goes, e))
