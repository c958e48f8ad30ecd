-- The lines of a walk, as a receiver has them: kept, written, or written in pairs.
use Rattle.std.proofs.Common.{◌≡◌, ◌↔◌, ℕ, ◌+◌, ◌<◌, ◌≤◌, true, List, [], ◌∷◌, ◌++◌, Bool}
use Rattle.std.proofs.Common.{false, length, drop, get_or, map, sym, subst, refl, append_assoc}
use Rattle.std.proofs.Output.{has_written_append, writes_in_calls_nil}
use Rattle.std.proofs.lemmas.Bool.{both_ways}
use Rattle.std.proofs.lemmas.List.{append-nil, drop_all, drop_more, map-append}
use Rattle.std.proofs.lemmas.List.Elements.{All-push}
use Rattle.std.proofs.lemmas.Fmt.{contents_after_writes}
use Rattle.std.specs.Fmt.{HasWritten, IsPlainFormatter, formatter_writer}
use Rattle.std.specs.Global.{Vec}
use Rattle.std.specs.declared.fmt.Formatter.{Formatter}
use Rattle.tok_core.specs.Forest.{Forest}
use Rattle.syn_replay.specs.Agree.{LinesAgree, ReportsAgree, VerdictsAgree}
use Rattle.syn_replay.specs.Commands as commands
use Rattle.syn_replay.specs.Commands.{command_of}
use Rattle.syn_replay.specs.Meanings.{IsPlain, line_of, verdict_of}
use Rattle.syn_replay.specs.Reports as reports
use Rattle.syn_replay.specs.Reports.{Report}
use Rattle.syn_replay.specs.ReportText.{as_line, line_text, lines_text, report_text, verdict_text}
use Rattle.syn_replay.specs.Session.Receivers.{Compares, KeepsLine, WritesLine}
use Rattle.syn_replay.specs.Session.State.{AllStreams, first_state}
use Rattle.syn_replay.specs.Session.Step.{step}
use Rattle.syn_replay.specs.Session.Promises.{ArePlain, AreReceived, IsLine}
use Rattle.syn_replay.specs.Session.Streams.{state_of}
use Rattle.syn_replay.specs.Session.Walk.{last_state, lines_from, verdict, walk}
use Rattle.syn_replay.specs.declared.agreement.written.Pair.{Pair}
use Rattle.syn_replay.specs.declared.command.Command.{Command}
use Rattle.syn_replay.specs.declared.report.Line.{Line}
use Rattle.syn_replay.specs.declared.report.Verdict.{Verdict}
use Rattle.std.proofs.Common.{arith}
use Rattle.std.proofs.Common.{rules}

-- a run so far: what is left leads from here to where the whole leads
module _ {R : Type 0} (receives : R → Command → Line → R → Type 0) (first : AllStreams) (start : R)
    (all : List Command) where
  pub record Leads (st : AllStreams) (r : R) (i : ℕ) : Type 0 where
    pub state : last_state st (map command_of (drop i all))
        ≡ last_state first (map command_of all)
    pub lines : (last : R) → AreReceived receives st (drop i all) r last
        → AreReceived receives first all start last

  module _ (st : AllStreams) (r : R) (i : ℕ) (leads : Leads st r i) where
    pub leads_on : (new : AllStreams) (next : R) (c d : Command) (l : Line) → i < length all
        → c ≡ get_or all i d → IsLine l new st (command_of c) → receives r c l next
        → Leads new next (i + 1)
    leads_on new next c d l h item (is, one, after) received = search (rules, drop_more)

    module _ (h : length all ≤ i) where
      pub leads_to_state : st ≡ last_state first (map command_of all)
      leads_to_state = grind (arith, drop_all)

      pub leads_to_lines : AreReceived receives first all start r
      leads_to_lines = grind (arith, drop_all)

-- lines that are kept
pub lines_kept : (st : AllStreams) (cs : List Command) (before after : Vec Line)
    → AreReceived KeepsLine st cs before after → ArePlain before.items
    → (map line_of after.items ≡ map line_of before.items ++ lines_from st (map command_of cs))
    × ArePlain after.items
lines_kept st [] before after e plain =
    rw e (sym (append-nil (map line_of before.items)), plain)
lines_kept st (c ∷ cs) before after (l, next, is, one, kept, rest) plain =
    let new = (step (command_of c) st).state in
    let more = lines_from new (map command_of cs) in
    let plain_so : ArePlain next.items =
    rw kept (All-push (λ x. IsPlain x.answer) before.items l plain one) in
    let (lines, all_plain) = lines_kept new cs next after rest plain_so in
    let mapped = map-append line_of before.items (l ∷ []) in
    let joined = append_assoc (map line_of before.items) (line_of l ∷ []) more in
    (cc, all_plain)

module _ {W : Type 0} (took : W → List ℕ → W → Type 0) where
  -- lines that are written
  pub lines_written : (st : AllStreams) (cs : List Command) (f g : Formatter W)
      → AreReceived (WritesLine took) st cs f g → IsPlainFormatter f
      → HasWritten took f (lines_text (lines_from st (map command_of cs))) g
  lines_written st [] f g e plain =
      rw e (record { wrote = writes_in_calls_nil took _; plain = plain })
  lines_written st (c ∷ cs) f g (l, next, is, one, wrote, rest) plain =
      let new = (step (command_of c) st).state in
      let more = lines_text (lines_from new (map command_of cs)) in
      let now = wrote plain in
      subst (λ x. HasWritten took f (as_line (line_text x) ++ more) g) is
      (has_written_append took f (as_line (line_text (line_of l))) next more g now
      (lines_written new cs next g rest now.plain))

  -- lines of two replays
  pub record AreBoth (ours theirs : List reports.Line) (end : AllStreams) (before after : Pair W)
      : Type 0 where
    pub state : state_of after.other ≡ end
    pub left : IsPlainFormatter before.left
        → HasWritten took before.left (lines_text ours) after.left
    pub right : IsPlainFormatter before.right
        → HasWritten took before.right (lines_text theirs) after.right
    pub agree : (after.agree ≡ true) ↔ ((before.agree ≡ true) × LinesAgree ours theirs)

  one_more : (c : Command) (ours : Line) (before next after : Pair W)
      (on : Compares took before c ours next) (l k : reports.Line) (ls ks : List reports.Line)
      (end : AllStreams) → line_of ours ≡ l → line_of on.theirs ≡ k → AreBoth ls ks end next after
      → AreBoth (l ∷ ls) (k ∷ ks) end before after
  one_more c ours before next after on l k ls ks end is same both =
      rw (← is, ← same) (record {
        state = both.state;
        left = λ plain.
            let now = on.left plain in
            has_written_append took before.left _ next.left _ after.left now (both.left now.plain);
        right = λ plain.
            let now = on.right plain in
            has_written_append took before.right _ next.right _ after.right now
            (both.right now.plain);
        agree = (
          λ so.
              let (here, others) = both.agree.0 so in
              let (until, now) = on.agree.0 here in (until, (now, others)),
          λ (until, (now, others)). both.agree.1 (on.agree.1 (until, now), others),
        );
      })

  pub lines_of_both : (st : AllStreams) (cs : List Command) (before after : Pair W)
      → AreReceived (Compares took) st cs before after
      → AreBoth (lines_from st (map command_of cs))
      (lines_from (state_of before.other) (map command_of cs))
      (last_state (state_of before.other) (map command_of cs)) before after
  lines_of_both st [] before after e =
      rw e (record {
        state = refl;
        left = λ plain. record { wrote = writes_in_calls_nil took _; plain = plain };
        right = λ plain. record { wrote = writes_in_calls_nil took _; plain = plain };
        agree = (λ so. (so, tt), λ so. so.0);
      })
  lines_of_both st (c ∷ cs) before after (ours, next, is, one, on, rest) =
      let (same, plain, next_state) = on.is_line in
      let both = lines_of_both (step (command_of c) st).state cs next after rest in
      one_more c ours before next after on _ _ _ _ _ is same (rw next_state at both)

  -- the lines of a walk and its verdict, as the contents of the writer, are its report
  pub report_written : (contents : W → List ℕ)
      → ((w : W) (bs : List ℕ) (v : W) → took w bs v → contents v ≡ contents w ++ bs)
      → (forest : Forest) (cs : List commands.Command) (st end : AllStreams) (v : Verdict)
      → st ≡ first_state forest → end ≡ last_state st cs → verdict_of v ≡ verdict end
      → (f g h : Formatter W) → IsPlainFormatter f → contents (formatter_writer f) ≡ []
      → (IsPlainFormatter f → HasWritten took f (lines_text (lines_from st cs)) g)
      → (IsPlainFormatter g → HasWritten took g (as_line (verdict_text (verdict_of v))) h)
      → contents (formatter_writer h) ≡ report_text (walk forest cs)
  report_written contents appends forest cs st end v begins last is f g h plain none lines ending =
      let text = lines_text (lines_from st cs) ++ as_line (verdict_text (verdict_of v)) in
      let w = lines plain in
      let wrote =
      contents_after_writes took contents appends _ text _
      (has_written_append took f _ g _ h w (ending w.plain)).wrote in
      cc

-- reports agree if all their lines do, and then their verdicts
pub reports_agree : (left right : Report) (lines agree : Bool)
    → ((lines ≡ true) ↔ LinesAgree left.lines right.lines)
    → (lines ≡ true → (agree ≡ true) ↔ VerdictsAgree left.verdict right.verdict)
    → (lines ≡ false → agree ≡ false) → (agree ≡ true) ↔ ReportsAgree left right
reports_agree a0 a1 a2 a3 a4 a5 a6 = search (rules, both_ways)
