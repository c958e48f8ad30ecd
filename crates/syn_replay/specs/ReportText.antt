-- The printed text of a report.
use Rattle.tok_buffer.specs.Messages.{message_span}
use Rattle.std.specs.Prelude.{ℕ, true, false, if◌then◌else◌, List, [], ◌∷◌, ◌++◌, Some, None, codes}
use Rattle.std.specs.Fmt.{decimal}
use Rattle.std.specs.List.{flat_map}
use Rattle.tok_leaves.specs.declared.span.Span.{Span}
use Rattle.tok_core.specs.Filled.{has_trees}
use Rattle.tok_core.specs.Forest.{Forest}
use Rattle.tok_leaves.specs.Spans.{range}
use Rattle.tok_lexical.specs.Ascii.{line_feed}
use Rattle.tok_lexical.specs.Delimiters.{opening}
use Rattle.tok_core.specs.Text.{text}
use Rattle.tok_buffer.specs.declared.error.Message.{Message}
use Rattle.syn_replay.specs.Reports.{Piece, Answer, truth, read, absent, entered, forked, list}
use Rattle.syn_replay.specs.Reports.{found, done, at, trees, refused, misused, Position}
use Rattle.syn_replay.specs.Reports.{stands_at, at_empty, missing, Line, Verdict, accepted}
use Rattle.syn_replay.specs.Reports.{left_over, Report}
use Rattle.syn_replay.specs.declared.report.Misuse.{Misuse}
use Rattle.syn_replay.specs.declared.report.Misuse.TheVariants.{NoStream, Spent, NoFork, NoContent}
use Rattle.syn_replay.specs.declared.report.Misuse.TheVariants.{OutOfScope}

-- a line, with its line feed
abbrev pub as_line : List ℕ → List ℕ
as_line line = line ++ line_feed ∷ []

-- a part after others: a space parts it from them, and an empty part adds none
abbrev pub spaced : List ℕ → List ℕ
spaced [] = []
spaced (b ∷ bs) = codes " " ++ b ∷ bs

-- the range of bytes, or `call` for the call site; the number of the source isn't printed
abbrev pub span_text : Span → List ℕ
span_text span =
    elim (range span) [ None ↦ codes "call" | Some r ↦ decimal r.1 ++ (codes ".." ++ decimal r.2) ]

-- a message's span and text, which is never empty
abbrev pub message_text : Message → List ℕ
message_text m = codes "refused " ++ (span_text (message_span m) ++ (codes " " ++ m.text))

-- a piece after others
abbrev pub piece_text : Piece → List ℕ
piece_text p = spaced p.text ++ (codes " " ++ span_text p.span)

-- a value or a separator after others, in brackets
abbrev pub part_text : List Piece → List ℕ
part_text [] = codes " []"
part_text (p ∷ ps) =
    codes " ["
    ++ (p.text ++ (codes " " ++ (span_text p.span ++ (flat_map piece_text ps ++ codes "]"))))

-- trees after others: a space parts them from these, and no trees add none
abbrev pub trees_text : Forest → List ℕ
trees_text f = if has_trees f then codes " " ++ text f else []

-- a misuse is printed as a number
abbrev pub misuse_number : Misuse → ℕ
misuse_number NoStream = 1
misuse_number Spent = 2
misuse_number NoFork = 3
misuse_number NoContent = 4
misuse_number OutOfScope = 5

-- the text of an answer
abbrev pub answer_text : Answer → List ℕ
answer_text (truth true) = codes "true"
answer_text (truth false) = codes "false"
answer_text (read ps) = codes "read" ++ flat_map piece_text ps
answer_text (entered n delimiter span) =
    codes "entered "
    ++ (decimal n ++ (codes " " ++ (opening delimiter ++ (codes " " ++ span_text span))))
answer_text absent = codes "none"
answer_text (forked n) = codes "forked " ++ decimal n
answer_text (list parts) = codes "list" ++ flat_map part_text parts
answer_text (found n) = codes "found " ++ decimal n
answer_text (trees f) = codes "trees" ++ trees_text f
answer_text done = codes "done"
answer_text (at span) = codes "span " ++ span_text span
answer_text (refused r) = message_text r
answer_text (misused m) = codes "refused C" ++ decimal (misuse_number m)

-- the text of a position
abbrev pub position_text : Position → List ℕ
position_text (stands_at n) = codes "@" ++ decimal n
position_text at_empty = codes "@empty"
position_text missing = codes "@-"

-- an answer and the position after it
abbrev pub line_text : Line → List ℕ
line_text l = answer_text l.answer ++ (codes " " ++ position_text l.position)

-- the text of a verdict
abbrev pub verdict_text : Verdict → List ℕ
verdict_text accepted = codes "accepted"
verdict_text (left_over r) = message_text r

-- lines, each with its line feed
abbrev pub lines_text : List Line → List ℕ
lines_text = flat_map (λ l. as_line (line_text l))

-- the text of a report: each line, and then the verdict
abbrev pub report_text : Report → List ℕ
report_text r = flat_map (λ l. as_line (line_text l)) r.lines ++ as_line (verdict_text r.verdict)
