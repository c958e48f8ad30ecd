-- What a token that is parsed answers.
use Rattle.std.proofs.Common.{◌≡◌, ◌∙◌, sym, ap}
use Rattle.std.specs.Prelude.{Option, Err, List}
use Rattle.std.specs.Global.{Vec}
use Rattle.tok_core.specs.Forest.{Tree}
use Rattle.tok_buffer.specs.Messages as messages
use Rattle.tok_buffer.specs.Place.{Place}
use Rattle.syn_parse.specs.State as parse
use Rattle.syn_parse.specs.State.{fresh, moved}
use Rattle.syn_parse.specs.declared.fault.Fault.{Fault}
use Rattle.syn_parse.specs.declared.fault.Fault.TheVariants.{Refused, Memory}
use Rattle.syn_replay.specs.Commands.{answered_by}
use Rattle.syn_replay.specs.Reports as reports
use Rattle.syn_replay.specs.Kinds.{Kind, read, kind_missing}
use Rattle.tok_buffer.specs.Messages.{first_message}
use Rattle.syn_replay.specs.Meanings.{IsAnswer}
use Rattle.syn_replay.specs.Session.Reading.{AfterPieces, GivesAnswer, LeavesAt, ReadsPieces}
use Rattle.syn_replay.specs.Turns.{pieces_of}
use Rattle.syn_replay.specs.declared.report.Answer.TheVariants as answer
use Rattle.syn_replay.specs.declared.report.Piece.{Piece}
use Rattle.syn_replay.proofs.Messages.{message_there}

module _ (kind : Kind) (s : parse.State) where
  abbrev pub parsed_by : Option (List Tree × Place) → reports.Answer × Place
  parsed_by x =
      answered_by (λ ts. reports.read (pieces_of ts)) (kind_missing kind
      (fresh s.place s.scope_span))
      s.place x

  pub error_parsed : (t : parse.State) (f : Fault)
      → ReadsPieces (read kind s.place) (kind_missing kind s) s (Err f) t
      → GivesAnswer (parsed_by (read kind s.place)).0 (Err f)
      × LeavesAt (Err f) t (moved (parsed_by (read kind s.place)).1 s)
  error_parsed t (Memory e) h = (tt, tt)
  error_parsed t (Refused e) (none, is, left) =
      let made = is ∙ ap messages.one_message (message_there kind s) in
      let same = ap first_message made in
      rw none ((ap reports.refused same, made ∙ ap messages.one_message (sym same)), left)

  -- the pieces of trees that are read
  pub pieces_parsed : (t : parse.State) (ps : Vec Piece)
      → AfterPieces (read kind s.place) s ps t
      → IsAnswer (answer.Read ps) (parsed_by (read kind s.place)).0
      × (t ≡ moved (parsed_by (read kind s.place)).1 s)
  pieces_parsed t ps (r, is, made, left) = rw is ((ap reports.read made, tt), left)
