-- Two texts under one list of commands: the reports, and five facts.
use Rattle.std.specs.Prelude.{◌≡◌, ◌↔◌, ◌&&◌, ℕ, Bool, true, false, List, ◌++◌, codes}
use Rattle.tok_core.specs.Clear.{clear}
use Rattle.tok_core.specs.Erase.{erase}
use Rattle.tok_core.specs.Filled.{filled}
use Rattle.tok_core.specs.Forest.{Forest}
use Rattle.syn_replay.specs.Agree.{ReportsAgree}
use Rattle.syn_replay.specs.Commands.{Command}
use Rattle.syn_replay.specs.Reports.{Verdict, accepted, left_over, Report}
use Rattle.syn_replay.specs.ReportText.{as_line, report_text}
use Rattle.syn_replay.specs.Transparent.{all_transparent}
use Rattle.syn_replay.specs.Session.Walk.{walk}

-- five facts about two forests and one list of commands
pub record Facts : Type 0 where
  pub visible : Bool
  pub filled : Bool
  pub clear : Bool
  pub transparent : Bool
  pub agree : Bool

-- the facts of two forests and a list of commands
pub record AreFacts (left right : Forest) (commands : List Command) (facts : Facts) : Type 0 where
  pub visible : (facts.visible ≡ true) ↔ (erase left ≡ erase right)
  pub filled : facts.filled ≡ (filled left && filled right)
  pub clear : facts.clear ≡ (clear left && clear right)
  pub transparent : facts.transparent ≡ all_transparent commands
  pub agree : (facts.agree ≡ true) ↔ ReportsAgree (walk left commands) (walk right commands)

-- the reports on two forests, and the facts about them
pub record Comparison : Type 0 where
  pub left : Report
  pub right : Report
  pub facts : Facts

-- the walks of two forests, and their facts
pub record Compares (f g : Forest) (commands : List Command) (c : Comparison) : Type 0 where
  pub left : c.left ≡ walk f commands
  pub right : c.right ≡ walk g commands
  pub facts : AreFacts f g commands c.facts

-- the word for whether a fact holds
abbrev pub yes_or_no : Bool → List ℕ
yes_or_no true = codes "yes"
yes_or_no false = codes "no"

-- the word for whether the visible trees are the same
abbrev pub same_or_different : Bool → List ℕ
same_or_different true = codes "same"
same_or_different false = codes "different"

-- each fact on a line of its own
abbrev pub facts_text : Facts → List ℕ
facts_text f =
    as_line (codes "visible " ++ same_or_different f.visible)
    ++ (as_line (codes "filled " ++ yes_or_no f.filled)
    ++ (as_line (codes "clear " ++ yes_or_no f.clear)
    ++ (as_line (codes "transparent " ++ yes_or_no f.transparent)
    ++ as_line (codes "agree " ++ yes_or_no f.agree))))

-- both reports and the facts, with a line `---` after each report
abbrev pub comparison_text : Comparison → List ℕ
comparison_text c =
    report_text c.left
    ++ (as_line (codes "---") ++ (report_text c.right ++ (as_line (codes "---")
    ++ facts_text c.facts)))

-- 0 if a verdict accepts, 1 if it rejects
abbrev pub verdict_status : Verdict → ℕ
verdict_status accepted = 0
verdict_status (left_over r) = 1

-- 1 if one of two verdicts rejects, else 0
abbrev pub both_status : Verdict → Verdict → ℕ
both_status accepted v = verdict_status v
both_status (left_over r) v = 1

-- what the program reports: on one text, or on two that it compares
pub data Reports : Type 0 where
  reported : Report → Reports
  compared : Comparison → Reports

-- the bytes that the program prints
abbrev pub reports_text : Reports → List ℕ
reports_text (reported r) = report_text r
reports_text (compared c) = comparison_text c

-- the exit status of the program, 0 or 1
abbrev pub reports_status : Reports → ℕ
reports_status (reported r) = verdict_status r.verdict
reports_status (compared c) = both_status c.left.verdict c.right.verdict
