-- A command that fits its streams, and one that does not.
use Rattle.std.proofs.Common.{◌≡◌, ℕ, true, false, Option, Some, None}
use Rattle.std.proofs.lemmas.Bool.{not-false, or_parts}
use Rattle.std.specs.Prelude.{◌||◌}
use Rattle.syn_replay.specs.Commands.{Command}
use Rattle.syn_replay.specs.declared.report.Misuse.{Misuse}
use Rattle.syn_replay.specs.Session.State.{AllStreams, is_open_at}
use Rattle.syn_replay.specs.Reports.{misused}
use Rattle.syn_replay.specs.Session.Step.{Stepped, any_of, is_unknown, has_ended, unmoved}
use Rattle.syn_replay.specs.Session.Step.{kind_misuse, misuse, named_by}
use Rattle.std.proofs.Common.{rules}

-- what the tests say of the streams that a command names
pub record Fits (c : Command) (st : AllStreams) : Type 0 where
  pub there : any_of (is_unknown st) (named_by c) ≡ false
  pub is_open : any_of (has_ended st) (named_by c) ≡ false
  pub kind : kind_misuse c.action st c.stream ≡ None

pub fits : (c : Command) (st : AllStreams) → misuse c st ≡ None → Fits c st
fits c st h = search rules

pub one_open : (st : AllStreams) (n : ℕ) → (has_ended st n || false) ≡ false
    → is_open_at st n ≡ true
one_open st n h = not-false (is_open_at st n) (or_parts (has_ended st n) false h).0

-- a misused command changes nothing, and any other does this
abbrev pub misused_or : AllStreams → Option Misuse → Stepped → Stepped
misused_or st o r = elim o [ Some m ↦ unmoved st (misused m) | None ↦ r ]
