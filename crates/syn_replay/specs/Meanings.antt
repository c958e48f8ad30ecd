-- What kinds, answers and reports of the program stand for.
use Rattle.std.specs.Prelude.{◌≡◌, ℕ, List, map, codes}
use Rattle.std.specs.Global.{Vec}
use Rattle.tok_leaves.specs.Spans.{whole_span}
use Rattle.tok_buffer.specs.Messages.{first_message}
use Rattle.tok_buffer.specs.Messages as messages
use Rattle.tok_buffer.specs.declared.error.Message.{Message}
use Rattle.syn_replay.specs.Kinds as kinds
use Rattle.syn_replay.specs.Reports as spec
use Rattle.syn_replay.specs.declared.command.Kind.{Kind}
use Rattle.syn_replay.specs.declared.command.Kind.TheVariants as kind
use Rattle.syn_replay.specs.declared.command.Look.{Look}
use Rattle.syn_replay.specs.declared.command.Look.TheVariants as look
use Rattle.syn_replay.specs.declared.command.Separator.{Separator}
use Rattle.syn_replay.specs.declared.command.Separator.TheVariants as separator
use Rattle.syn_replay.specs.declared.report.Piece as pieces
use Rattle.syn_replay.specs.declared.report.Answer as answers
use Rattle.syn_replay.specs.declared.report.Answer.TheVariants as answer
use Rattle.syn_replay.specs.declared.report.Position as positions
use Rattle.syn_replay.specs.declared.report.Position.TheVariants as position
use Rattle.syn_replay.specs.declared.report.Line as lines
use Rattle.syn_replay.specs.declared.report.Verdict as verdicts
use Rattle.syn_replay.specs.declared.report.Verdict.TheVariants as verdict
use Rattle.syn_replay.specs.declared.report.Report as reports

-- an error is one message, that which it shows
abbrev pub IsOneMessage : List Message → Type 0
IsOneMessage e = e ≡ messages.one_message (first_message e)

-- the kind that a value of the program is
abbrev pub kind_of : Kind → kinds.Kind
kind_of kind.Ident = kinds.ident
kind_of kind.IdentAny = kinds.ident_any
kind_of kind.Lifetime = kinds.lifetime
kind_of kind.LifetimeAny = kinds.lifetime_any
kind_of kind.Literal = kinds.literal
kind_of kind.Punct = kinds.punct
kind_of kind.Underscore = kinds.underscore
kind_of (kind.Keyword k) = kinds.keyword k
kind_of (kind.Punctuation k) = kinds.punctuation k

-- the look that a value of the program is
abbrev pub look_of : Look → kinds.Look
look_of (look.Kind k) = kinds.kind (kind_of k)
look_of look.Paren = kinds.paren
look_of look.Brace = kinds.brace
look_of look.Bracket = kinds.bracket
look_of look.End = kinds.the_end
look_of look.Group = kinds.invisible_group
look_of look.GroupTree = kinds.group_tree
look_of look.Tree = kinds.any_tree

-- the text of a separator
abbrev pub separator_of : Separator → List ℕ
separator_of separator.Comma = codes ","
separator_of separator.Semi = codes ";"
separator_of separator.Plus = codes "+"
separator_of separator.PathSep = codes "::"

-- the piece that a value of the program is
abbrev pub piece_of : pieces.Piece → spec.Piece
piece_of p = record { text = p.text; span = p.span }

-- the pieces of a vector
abbrev pub pieces_in : Vec pieces.Piece → List spec.Piece
pieces_in ps = map piece_of ps.items

-- the answer that a value of the program is
abbrev pub answer_of : answers.Answer → spec.Answer
answer_of (answer.Truth b) = spec.truth b
answer_of (answer.Read ps) = spec.read (map piece_of ps.items)
answer_of answer.Absent = spec.absent
answer_of (answer.Entered n d s) = spec.entered n d (whole_span s)
answer_of (answer.Forked n) = spec.forked n
answer_of (answer.List parts) = spec.list (map pieces_in parts.items)
answer_of (answer.Found n) = spec.found n
answer_of answer.Done = spec.done
answer_of (answer.At s) = spec.at s
answer_of (answer.Trees f) = spec.trees f
answer_of (answer.Refused e) = spec.refused (first_message e)
answer_of (answer.Misused m) = spec.misused m

-- the error of an answer is one message
abbrev pub IsPlain : answers.Answer → Type 0
IsPlain (answer.Refused e) = IsOneMessage e
IsPlain a = Unit {0}

-- the program's answer is this one
abbrev pub IsAnswer : answers.Answer → spec.Answer → Type 0
IsAnswer a x = (answer_of a ≡ x) × IsPlain a

-- the position that a value of the program is
abbrev pub position_of : positions.Position → spec.Position
position_of (position.At n) = spec.stands_at n
position_of position.Empty = spec.at_empty
position_of position.Missing = spec.missing

-- the line that a value of the program is
abbrev pub line_of : lines.Line → spec.Line
line_of l = record { answer = answer_of l.answer; position = position_of l.position }

-- the verdict that a value of the program is
abbrev pub verdict_of : verdicts.Verdict → spec.Verdict
verdict_of verdict.Accepted = spec.accepted
verdict_of (verdict.Refused e) = spec.left_over (first_message e)

-- the report that a value of the program is
abbrev pub report_of : reports.Report → spec.Report
report_of r = record { lines = map line_of r.lines.items; verdict = verdict_of r.verdict }
