-- Reports that agree.
use Rattle.tok_buffer.specs.Messages.{message_span}
use Rattle.std.specs.Prelude.{◌≡◌, List, ⊤}
use Rattle.std.specs.List.{AllZip}
use Rattle.syn_replay.specs.Reports.{Answer, refused, Line, Verdict, accepted, left_over, Report}

-- errors agree if their texts are equal, other answers if they are equal
abbrev pub AnswersAgree : Answer → Answer → Type 0
AnswersAgree (refused r) (refused q) = r.text ≡ q.text
AnswersAgree a b = a ≡ b

-- as many lines, and line by line answers that agree, whatever the positions
abbrev pub LinesAgree : List Line → List Line → Type 0
LinesAgree left right = AllZip (λ l k. AnswersAgree l.answer k.answer) left right

-- verdicts that both accept, or both reject at equal spans
abbrev pub VerdictsAgree : Verdict → Verdict → Type 0
VerdictsAgree accepted accepted = ⊤
VerdictsAgree (left_over r) (left_over q) = message_span r ≡ message_span q
VerdictsAgree v w = ⊥

-- two reports agree: line by line, and in their verdicts
pub record ReportsAgree (left right : Report) : Type 0 where
  pub lines : LinesAgree left.lines right.lines
  pub verdicts : VerdictsAgree left.verdict right.verdict
