-- What the parts of a read promise.
use Rattle.std.specs.Prelude.{◌≡◌, ℕ, List, [], ◌∷◌, map, Option, Some, None}
use Rattle.std.specs.Prelude.{Result, Ok, Err, encode_utf8}
use Rattle.std.specs.Global.{Vec}
use Rattle.tok_leaves.specs.declared.span.Span.{Span}
use Rattle.tok_core.specs.Forest.{Tree}
use Rattle.tok_buffer.specs.Messages as messages
use Rattle.tok_buffer.specs.Place.{Place}
use Rattle.tok_buffer.specs.declared.error.Message.{Message}
use Rattle.syn_parse.specs.State as parse
use Rattle.syn_parse.specs.State.{moved}
use Rattle.syn_parse.specs.declared.fault.Fault.{Fault}
use Rattle.syn_parse.specs.declared.fault.Fault.TheVariants.{Refused, Memory}
use Rattle.syn_punctuated.specs.declared.pair.Pair.{Pair}
use Rattle.syn_punctuated.specs.declared.pair.Pair.TheVariants.{Punctuated, End}
use Rattle.tok_types.specs.declared.punctuation.Punctuation.{Punctuation}
use Rattle.syn_replay.specs.Commands.{StreamRead, read_answer}
use Rattle.syn_replay.specs.Reports as reports
use Rattle.syn_replay.specs.Turns.{ListRule, pieces_of, terminated, separated}
use Rattle.tok_buffer.specs.Messages.{first_message}
use Rattle.syn_replay.specs.Meanings.{IsAnswer, IsOneMessage, piece_of, pieces_in}
use Rattle.syn_replay.specs.declared.report.Answer.{Answer}
use Rattle.syn_replay.specs.declared.report.Piece.{Piece}
use Rattle.syn_replay.specs.declared.session.lists.Form.{Form}
use Rattle.syn_replay.specs.declared.session.lists.Form.TheVariants.{Terminated, Separated}

-- the pieces of the trees read
abbrev pub ArePieces : List Tree → Vec Piece → Type 0
ArePieces ts ps = map piece_of ps.items ≡ pieces_of ts

-- characters, each with its span
abbrev pub punct_pieces : List ℕ → List Span → List reports.Piece
punct_pieces [] spans = []
punct_pieces (c ∷ cs) [] = []
punct_pieces (c ∷ cs) (s ∷ spans) =
    record { text = encode_utf8 c; span = s } ∷ punct_pieces cs spans

-- a value and its separator, in pieces
abbrev pub pair_parts :
    {k n : ℕ} → List ℕ → Pair (Vec Piece) (Punctuation k n) → List (List reports.Piece)
pair_parts text (Punctuated v p) = pieces_in v ∷ (punct_pieces text p.spans ∷ [])
pair_parts text (End v) = pieces_in v ∷ []

-- trees are read, the pieces are theirs, and the stream is after them
abbrev pub AfterPieces : Option (List Tree × Place) → parse.State → Vec Piece → parse.State →
    Type 0
AfterPieces x s ps t =
    (r : List Tree × Place) × (x ≡ Some r) × ArePieces r.0 ps × (t ≡ moved r.1 s)

-- If trees are read, their pieces are the answer and the stream is after them. If none are, the
-- call returns an error and the stream stays. An allocation failure may come instead of both.
abbrev pub ReadsPieces : Option (List Tree × Place) → Message → parse.State →
    Result (Vec Piece) Fault → parse.State → Type 0
ReadsPieces x words s (Ok ps) t = AfterPieces x s ps t
ReadsPieces x words s (Err (Refused e)) t =
    (x ≡ None) × (e ≡ messages.one_message words) × (t ≡ s)
ReadsPieces x words s (Err (Memory e)) t = Unit {0}

-- an error, in one message
abbrev pub IsErrorAnswer : List Message → reports.Answer → Type 0
IsErrorAnswer e x = (reports.refused (first_message e) ≡ x) × IsOneMessage e

-- an answer, or its error
abbrev pub GivesAnswer : reports.Answer → Result Answer Fault → Type 0
GivesAnswer x (Ok a) = IsAnswer a x
GivesAnswer x (Err (Refused e)) = IsErrorAnswer e x
GivesAnswer x (Err (Memory e)) = Unit {0}

-- the stream is then in this state; nothing is said of an allocation failure
abbrev pub LeavesAt : Result Answer Fault → parse.State → parse.State → Type 0
LeavesAt (Ok a) t wanted = t ≡ wanted
LeavesAt (Err (Refused e)) t wanted = t ≡ wanted
LeavesAt (Err (Memory e)) t wanted = Unit {0}

-- the answer of a read, and the stream after it
abbrev pub IsRead : StreamRead → parse.State → Result Answer Fault → parse.State → Type 0
IsRead r s result t =
    GivesAnswer (read_answer r s.place s.scope_span).0 result
    × LeavesAt result t (moved (read_answer r s.place s.scope_span).1 s)

-- each of these calls is this read
abbrev pub AreReads : StreamRead → (parse.State → Result Answer Fault → parse.State → Type 0)
    → Type 0
AreReads r calls = (s t : parse.State) (x : Result Answer Fault) → calls s x t → IsRead r s x t

-- the rule of a list of this form
abbrev pub rule_of : Form → ListRule
rule_of Terminated = terminated
rule_of Separated = separated
