-- What is parsed of the visible trees of a stream. No premise speaks of its invisible groups.
use Rattle.std.specs.Prelude.{Result, Ok, Err}
use Rattle.tok_core.specs.Forest.{Forest}
use Rattle.tok_leaves.specs.Spans.{call_site}
use Rattle.tok_pruned.specs.Pruned.{pruned}
use Rattle.syn_parse.specs.Takes.{Agree, ErrorsAgree, IsAll, MemoryOr, SaysAll, Taking}
use Rattle.syn_parse.specs.Takings.{Takings, stated, untold}
use Rattle.syn_parse.specs.TreesAhead.{whole}
use Rattle.syn_parse.specs.declared.fault.Fault.{Fault}

-- The value that all visible trees are; or, if they are none, an error that says what is
-- missing, at its place in the pruned stream.
abbrev pub TakesVisible : {T A : Type 0} → (T → A) → Taking A → Forest → Result T Fault → Type 0
TakesVisible form take f (Ok v) = IsAll take f (form v)
TakesVisible {A} form take f (Err e) =
    MemoryOr e ((x : A) → IsAll take f x → ⊥) × SaysAll (pruned f) call_site (take (whole f)) e

-- the visible trees of a stream are read as the type states
abbrev pub KeepsVisible : {T : Type 0} → Takings T → Forest → Result T Fault → Type 0
KeepsVisible untold f r = Unit {0}
KeepsVisible (stated alone form take w) f r = TakesVisible form take f r

-- two results agree, in the form in which contracts see the type's values
abbrev pub AgreeAs : {T : Type 0} → Takings T → (left right : Result T Fault) → Type 0
AgreeAs untold left right = Unit {0}
AgreeAs (stated alone form take w) left right = Agree form left right

-- two errors have equal texts if a token is missing from these visible trees, and equal spans if
-- one is left over
abbrev pub SaySame : {T : Type 0} → Takings T → Forest → (left right : Result T Fault) → Type 0
SaySame untold f left right = Unit {0}
SaySame (stated alone form take w) f left right = ErrorsAgree (take (whole f)) left right
