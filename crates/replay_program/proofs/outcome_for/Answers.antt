use Rattle.std.proofs.Common.{◌≡◌, List, ℕ, Result, Ok, Err, Some, ap, sym, ◌∙◌}
use Rattle.std.specs.Prelude.{map}
use Rattle.std.specs.Result.{IsErrAnd, MatchResult}
use Rattle.std.specs.Str.{IsUtf8}
use Rattle.syn_replay.specs.Commands.{command_of}
use Rattle.syn_replay.specs.Session.Walk.{walk}
use Rattle.replay_program.specs.CommandText.{commands_in, unreadable_line}
use Rattle.replay_program.specs.Comparison.{reported}
use Rattle.replay_program.specs.Faults.{OnUnreadable}
use Rattle.replay_program.specs.Input.{lines}
use Rattle.replay_program.specs.Program.{IsUnreadableFor}
use Rattle.replay_program.specs.declared.fault.Fault.{Fault}
use Rattle.replay_program.specs.declared.fault.Fault.TheVariants as faults
use Rattle.replay_program.specs.declared.fault.Unreadable.{Unreadable}
use Rattle.replay_program.specs.declared.fault.Unreadable.TheVariants as why
use Rattle.replay_program.proofs.outcome_for.Goals as goal

refuse : {A : Type 0} (P : A → Type 0) (U : Unreadable → Type 0) (fault : Fault)
    (r : Result A Fault) → IsErrAnd r (λ f. f ≡ fault) → OnUnreadable fault U
    → MatchResult r P (λ f. OnUnreadable f U)
refuse P U fault (Ok o) e h = absurd e
refuse P U fault (Err f) e h = rw e h

-- what is told of all that was read
told_so : {A : Type 0} (P Q : A → Type 0) (U : Unreadable → Type 0) (r : Result A Fault)
    → MatchResult r P (λ f. f ≡ faults.Memory) → ((a : A) → P a → Q a)
    → MatchResult r Q (λ f. OnUnreadable f U)
told_so P Q U (Ok a) h more = more a h
told_so P Q U (Err f) h more = rw h tt

-- the fault of one of the lines of commands
lines_refused : (bytes text : List ℕ) → text ≡ bytes → IsUtf8 bytes → (fault : Fault)
    → OnUnreadable fault (λ w. (n : ℕ) × (w ≡ why.Command n)
    × (unreadable_line (lines text) ≡ Some n))
    → OnUnreadable fault (IsUnreadableFor bytes)
lines_refused bytes text same u (faults.Unreadable w) (n, e, k) =
    rw e (u, rw same at k)
lines_refused bytes text same u faults.Memory k = tt

pub returns-in_err-commands : goal.returns-in_err-commands
returns-in_err-commands c =
    let bytes = c.args.commands.now in
    let (same, utf8) = c.in-Ok.ensures.cases in
    let fault = c.in_err-commands.field-0.0 in
    refuse _ (IsUnreadableFor bytes) fault c.from_residual.result c.from_residual.ensures.1
    (lines_refused bytes c.in-Ok.lines.now same utf8 fault c.in_err-commands.ensures)

pub returns : goal.returns
returns c =
    let bytes = c.args.commands.now in
    let (same, utf8) = c.in-Ok.ensures.cases in
    let forest = c.args.buffer.now.forest in
    let cs = map command_of c.deref.result.now in
    let same_commands =
    ap (map command_of) c.deref.ensures.value ∙ c.in_ok-commands.ensures.1
    ∙ ap (λ b. commands_in (lines b)) same in
    told_so _ _ (IsUnreadableFor bytes) c.told.result c.told.ensures (λ p (printed, status). (
      reported (walk forest cs),
      (
        utf8,
        ap (λ b. unreadable_line (lines b)) (sym same) ∙ c.in_ok-commands.ensures.0,
        ap (walk forest) same_commands,
      ),
      printed,
      status,
    ))
