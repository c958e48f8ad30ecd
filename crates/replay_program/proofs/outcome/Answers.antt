use Rattle.std.proofs.Common.{◌≡◌, List, ℕ, Option, Result, Ok, Err, Some, None, ap, rules}
use Rattle.std.proofs.Common.{◌∙◌}
use Rattle.std.specs.Prelude.{map}
use Rattle.syn_replay.specs.Commands.{command_of}
use Rattle.std.specs.Result.{IsErrAnd, MatchResult}
use Rattle.std.specs.Str.{chars}
use Rattle.tok_core.specs.Forest.{Forest}
use Rattle.tok_core.specs.Lexical.Errors.{OnRefused}
use Rattle.tok_core.specs.Lexical.Reading.{IsRejected}
use Rattle.tok_lexical.specs.declared.rule.Mode.TheVariants.{Marked}
use Rattle.tok_core.specs.declared.lexer.error.LexFault.{LexFault}
use Rattle.tok_core.specs.declared.lexer.error.LexFault.TheVariants.{Refused, Memory}
use Rattle.replay_program.specs.Faults.{OnUnreadable, fault_of}
use Rattle.replay_program.specs.Input.{lines_left, text_in}
use Rattle.replay_program.specs.CommandText.{unreadable_line}
use Rattle.replay_program.specs.Comparison.{compared, reported}
use Rattle.replay_program.specs.Program.{HasForests, HasParts, IsForest}
use Rattle.replay_program.specs.Program.{IsUnreadable, IsUnreadableOther}
use Rattle.syn_replay.specs.Session.Walk.{walk}
use Rattle.replay_program.specs.declared.fault.Fault.{Fault}
use Rattle.replay_program.specs.declared.fault.Fault.TheVariants as faults
use Rattle.replay_program.specs.declared.fault.Unreadable.TheVariants as why
use Rattle.replay_program.proofs.outcome.Goals as goal
use Rattle.replay_program.proofs.outcome.Goals.{In-Some, In-Some-other}

module _ (bytes text : List ℕ) (other : Option (List ℕ)) (lines : List (List ℕ))
    (h : HasParts bytes text other lines) where
  text_refused : (fault : LexFault) → OnRefused fault (IsRejected Marked 0 (chars text))
      → OnUnreadable (fault_of fault) (IsUnreadable bytes)
  text_refused (Refused error) k = (text, other, lines, h, k)
  text_refused Memory k = tt

-- the second text
other_refused : (bytes text : List ℕ) (other : Option (List ℕ)) (lines : List (List ℕ))
    → HasParts bytes text other lines
    → (forest : Forest) → IsForest text forest
    → (fault : Fault) → OnUnreadable fault (IsUnreadableOther other)
    → OnUnreadable fault (IsUnreadable bytes)
other_refused bytes text None lines h forest r (faults.Unreadable w) k = absurd k
other_refused bytes text (Some other) lines h forest r (faults.Unreadable (why.Right e)) k =
    (text, other, lines, forest, h, r, k)
other_refused bytes text (Some other) lines h forest r (faults.Unreadable w) k = absurd k
other_refused bytes text other lines h forest r faults.Memory k = tt

refuse : {A : Type 0} (P : A → Type 0) (bytes : List ℕ) (fault : Fault) (r : Result A Fault)
    → IsErrAnd r (λ f. f ≡ fault) → OnUnreadable fault (IsUnreadable bytes)
    → MatchResult r P (λ f. OnUnreadable f (IsUnreadable bytes))
refuse P bytes fault (Ok o) e h = absurd e
refuse P bytes fault (Err f) e h = rw e h

-- what is told of all that was read
told_so : {A : Type 0} (P Q : A → Type 0) (bytes : List ℕ) (r : Result A Fault)
    → MatchResult r P (λ f. f ≡ faults.Memory) → ((a : A) → P a → Q a)
    → MatchResult r Q (λ f. OnUnreadable f (IsUnreadable bytes))
told_so P Q bytes (Ok a) h more = more a h
told_so P Q bytes (Err f) h more = rw h tt

commands_refused : (bytes : List ℕ) (forest : Forest) (more : Option Forest) (lines : List (List ℕ))
    → HasForests bytes forest more lines → (fault : Fault)
    → OnUnreadable fault (λ w. (n : ℕ) × (w ≡ why.Command n) × (unreadable_line lines ≡ Some n))
    → OnUnreadable fault (IsUnreadable bytes)
commands_refused bytes forest more lines h (faults.Unreadable w) (n, e, k) =
    rw e (forest, more, lines, h, k)
commands_refused bytes forest more lines h faults.Memory k = tt

-- what `parts` found are the parts of the input
parts_found : (c : In-Some) → HasParts c.args.input.now c.in-Some.text.now
    (text_in c.in-Some.other) (lines_left c.in-Some.lines)
parts_found c =
    let (same, utf8) = c.in-Ok.ensures.cases in (utf8, cc (same, c.in-Some.ensures.parts))

-- with a second text
both_found : (c : In-Some-other) → HasParts c.args.input.now c.in-Some.text.now
    (Some c.in-Some-other.other.now) (lines_left c.in-Some.lines)
both_found c =
    let (same, utf8) = c.in-Ok.ensures.cases in
    (utf8, cc (same, c.in-Some.ensures.parts, c.in-Some-other.is))

pub returns-in_err-buffer : goal.returns-in_err-buffer
returns-in_err-buffer c =
    let fault = c.in_err-buffer.field-0.0 in
    refuse _ c.args.input.now (fault_of fault) c.from_residual.result c.from_residual.ensures.1
    (text_refused _ _ _ _ (parts_found (goal.at.returns-in_err-buffer c).In-Some) fault
    c.in_err-buffer.ensures.follows.refuses)

pub returns-in_default-other : goal.returns-in_default-other
returns-in_default-other c =
    let bytes = c.args.input.now in
    let text = c.in-Some.text.now in
    let lines = lines_left c.in-Some.lines in
    let (same, utf8) = c.in-Ok.ensures.cases in
    let parts : HasParts bytes text None lines =
    (utf8, cc (same, c.in-Some.ensures.parts, c.in_default-other.is)) in
    let forest = c.in_ok-buffer.buffer.forest in
    let read : IsForest text forest = search rules in
    let cs = map command_of c.deref.result.now in
    let same_commands =
    ap (map command_of) c.deref.ensures.value ∙ c.in_ok-commands.ensures.1 in
    told_so _ _ bytes c.told.result c.told.ensures (λ p (printed, status). (
      reported (walk forest cs),
      (
        forest,
        None,
        lines,
        (text, None, parts, read, tt),
        c.in_ok-commands.ensures.0,
        ap (walk forest) same_commands,
      ),
      printed,
      status,
    ))

pub returns-in_err-stream : goal.returns-in_err-stream
returns-in_err-stream c =
    let fault = c.in_err-stream.field-0.0 in
    refuse _ c.args.input.now (fault_of fault) c.from_residual-in_err-stream.result
    c.from_residual-in_err-stream.ensures.1
    (text_refused _ _ _ _ (parts_found (goal.at.returns-in_err-stream c).In-Some) fault
    c.in_err-stream.ensures.refuses)

pub returns-in_err-right : goal.returns-in_err-right
returns-in_err-right c =
    let parts = both_found (goal.at.returns-in_err-right c).In-Some-other in
    let fault = c.in_err-right.field-0.0 in
    refuse _ c.args.input.now fault c.from_residual-in_err-right.result
    c.from_residual-in_err-right.ensures.1
    (other_refused c.args.input.now c.in-Some.text.now (Some c.in-Some-other.other.now)
    (lines_left c.in-Some.lines) parts c.in_ok-stream.stream c.in_ok-stream.ensures.reads fault
    c.in_err-right.ensures)

pub returns-in_err-commands-2 : goal.returns-in_err-commands-2
returns-in_err-commands-2 c =
    let parts = both_found (goal.at.returns-in_err-commands-2 c).In-Some-other in
    let fault = c.in_err-commands-2.field-0.0 in
    refuse _ c.args.input.now fault c.from_residual-in_err-commands-2.result
    c.from_residual-in_err-commands-2.ensures.1
    (commands_refused c.args.input.now c.in_ok-stream.stream (Some c.in_ok-right.right)
    (lines_left c.in-Some.lines) (
      c.in-Some.text.now,
      Some c.in-Some-other.other.now,
      parts,
      c.in_ok-stream.ensures.reads,
      c.in_ok-right.ensures,
    ) fault c.in_err-commands-2.ensures)

pub returns : goal.returns
returns c =
    let parts = both_found (goal.at.returns c).In-Some-other in
    let left = c.in_ok-stream.stream in
    let right = c.in_ok-right.right in
    let same_commands =
    ap (map command_of) c.deref-2.ensures.value ∙ c.in_ok-commands-2.ensures.1 in
    told_so _ _ c.args.input.now c.told_both.result c.told_both.ensures
    (λ p (x, compares, printed, status). (
      compared x,
      (
        left,
        Some right,
        lines_left c.in-Some.lines,
        (
          c.in-Some.text.now,
          Some c.in-Some-other.other.now,
          parts,
          c.in_ok-stream.ensures.reads,
          c.in_ok-right.ensures,
        ),
        c.in_ok-commands-2.ensures.0,
        rw same_commands at compares,
      ),
      printed,
      status,
    ))
