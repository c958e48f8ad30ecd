-- Reads and writes: those that go on, those that end, and those that fail.
use Rattle.std.specs.Prelude.{◌≡◌, ◌≢◌, ◌<◌, ◌≤◌, ◌⊎◌, ℕ, zero, suc, Result, Ok, Err, List, [], ◌++◌}
use Rattle.std.specs.Prelude.{take}
use Rattle.std.specs.IoError.{error_kind}
use Rattle.std.specs.declared.io.Error.{Error}
use Rattle.std.specs.declared.io.ErrorKind.TheVariants.{Interrupted}

-- a call that moved some bytes, or was interrupted
abbrev pub GoesOn : Result ℕ Error → Type 0
GoesOn (Ok n) = 0 < n
GoesOn (Err e) = error_kind e ≡ Interrupted

-- what a read or a write does: the source or sink before it, its result, the bytes that it gives or
-- takes, the source or sink after it
abbrev pub ByteCall : Type 0 → Type 1
ByteCall S = S → Result ℕ Error → List ℕ → S → Type 0

-- the bytes that a call has moved: those at the front of what it was lent
abbrev pub bytes_moved : Result ℕ Error → List ℕ → List ℕ
bytes_moved (Ok n) lent = take n lent
bytes_moved (Err e) lent = []

-- so many calls, each of which goes on, lead from s to t and move these bytes in turn
abbrev pub Moves : {S : Type 0} → ByteCall S → ℕ → S → List ℕ → S → Type 0
Moves calls zero s bytes t = (s ≡ t) × (bytes ≡ [])
Moves {S} calls (suc n) s bytes t =
    (mid : S) × (result : Result ℕ Error) × (front : List ℕ) × (more : List ℕ)
    × Moves calls n s front mid × calls mid result more t × GoesOn result × (bytes ≡ front ++ more)

-- a call returned an error, which is no interruption
abbrev pub HasFailed : {S : Type 0} → ByteCall S → S → S → Type 0
HasFailed calls s t = (e : Error) × calls s (Err e) [] t × (error_kind e ≢ Interrupted)

-- how a source was read: to its end, with these bytes, or in part, or until a read failed
pub record Reading : Type 1 where
  pub whole : List ℕ → Type 0
  pub part : Type 0
  pub failed : Type 0

-- the most reads of a source
abbrev pub most_reads : ℕ
most_reads = 4294967295

-- After some reads that went on, one found the end, or none came, or one failed; or the most reads
-- came to no end. There were no more than these.
abbrev pub reading : {S : Type 0} → ByteCall S → S → S → Reading
reading {S} reads s t =
    record {
      whole = λ bytes.
          (n : ℕ) × (mid : S) × (n < most_reads) × Moves reads n s bytes mid
          × reads mid (Ok 0) [] t;
      part = (n : ℕ) × (bytes : List ℕ) × (n ≤ most_reads) × Moves reads n s bytes t;
      failed =
          (n : ℕ) × (mid : S) × (bytes : List ℕ) × Moves reads n s bytes mid
          × (((n < most_reads) × HasFailed reads mid t)
          ⊎ ((n ≡ most_reads) × (mid ≡ t)));
    }

-- all was read before
abbrev pub all_read : Reading
all_read = record { whole = λ _. Unit {0}; part = ⊥; failed = ⊥ }

-- how a sink was written to: it took these bytes and was flushed, or took these until a call failed
pub record Writing : Type 1 where
  pub whole : List ℕ → Type 0
  pub failed : List ℕ → Type 0

-- After some writes that went on, the sink was flushed; or a write failed or took nothing, or the
-- flush failed, or there were 2^64 - 1 of them.
abbrev pub writing : {S : Type 0} → (writes : ByteCall S) →
    (flushes : S → Result (Unit {0}) Error → S → Type 0) → S → S → Writing
writing {S} writes flushes s t =
    record {
      whole = λ bytes.
          (n : ℕ) × (mid : S) × Moves writes n s bytes mid × flushes mid (Ok tt) t;
      failed = λ bytes.
          (n : ℕ) × (mid : S) × Moves writes n s bytes mid
          × (HasFailed writes mid t ⊎ writes mid (Ok 0) [] t ⊎ ((e : Error) × flushes mid (Err e) t)
          ⊎ ((n ≡ 18446744073709551615) × (mid ≡ t)));
    }
