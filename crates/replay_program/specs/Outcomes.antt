-- What the program's comparison stands for, and what comes of an input.
use Rattle.std.specs.Prelude.{◌≡◌, ℕ, List, ◌++◌, codes, string_bytes}
use Rattle.replay_program.specs.Comparison as spec
use Rattle.replay_program.specs.Comparison.{AreFacts, facts_text, reports_status, reports_text}
use Rattle.replay_program.specs.Program.{HasReports, HasReportsFor}
use Rattle.tok_core.specs.Forest.{Forest}
use Rattle.syn_replay.specs.Commands.{Command}
use Rattle.syn_replay.specs.Meanings.{verdict_of}
use Rattle.syn_replay.specs.ReportText.{as_line, report_text}
use Rattle.syn_replay.specs.Session.Walk.{walk}
use Rattle.replay_program.specs.declared.compared.Comparison.{Comparison}
use Rattle.replay_program.specs.declared.compared.Facts.{Facts}

-- the facts that a value of the program stands for
abbrev pub facts_of : Facts → spec.Facts
facts_of f =
    record {
      visible = f.visible;
      filled = f.filled;
      clear = f.clear;
      transparent = f.transparent;
      agree = f.agree;
    }

-- both texts and the facts
abbrev pub texts_of : Comparison → List ℕ
texts_of c =
    string_bytes c.left
    ++ (as_line (codes "---")
    ++ (string_bytes c.right ++ (as_line (codes "---") ++ facts_text (facts_of c.facts))))

-- the texts and the verdicts are those of the walks of two forests, and the facts are theirs
pub record HasCompared (f g : Forest) (commands : List Command) (c : Comparison) : Type 0 where
  pub left : string_bytes c.left ≡ report_text (walk f commands)
  pub right : string_bytes c.right ≡ report_text (walk g commands)
  pub left_verdict : verdict_of c.left_verdict ≡ (walk f commands).verdict
  pub right_verdict : verdict_of c.right_verdict ≡ (walk g commands).verdict
  pub facts : AreFacts f g commands (facts_of c.facts)

-- all is read, and this text with this status is what comes of it
abbrev pub Comes : List ℕ → List ℕ → ℕ → Type 0
Comes bytes printed status =
    (o : spec.Reports) × HasReports bytes o × (printed ≡ reports_text o)
    × (status ≡ reports_status o)

-- the commands are read, and this text with this status is what comes of the forest under them
abbrev pub ComesFor : Forest → List ℕ → List ℕ → ℕ → Type 0
ComesFor forest bytes printed status =
    (o : spec.Reports) × HasReportsFor forest bytes o × (printed ≡ reports_text o)
    × (status ≡ reports_status o)
