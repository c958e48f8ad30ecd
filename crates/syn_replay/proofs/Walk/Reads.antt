-- A read on one stream of several: the streams still list their contents, and its line is theirs.
use Rattle.std.proofs.Common.{◌≡◌, ◌∙◌, ap, refl, sym, ℕ, ◌<◌, List, length, get_or, set}
use Rattle.std.proofs.lemmas.Result.{IfOk-weaker}
use Rattle.std.specs.Prelude.{IfOk, Result}
use Rattle.std.specs.declared.alloc.AllocError.{AllocError}
use Rattle.syn_replay.specs.Commands as commands
use Rattle.syn_replay.specs.Commands.{StreamRead, on}
use Rattle.syn_replay.specs.Session.Links.{AreListed}
use Rattle.syn_replay.specs.Session.Promises.{IsLine, IsOpen}
use Rattle.syn_replay.specs.Session.State as states
use Rattle.syn_replay.specs.Session.Stream.{IsReadLine, KeepsContents, state_of_list, stream_kind}
use Rattle.syn_replay.specs.Session.Stream.{stream_of}
use Rattle.syn_replay.specs.declared.report.Line.{Line}
use Rattle.syn_replay.specs.declared.session.stream.Stream.{Stream}
use Rattle.syn_replay.proofs.Walk.Lines.{line_there}
use Rattle.syn_replay.proofs.Walk.Links.{listed_set}
use Rattle.syn_replay.proofs.Walk.Streams.{changed_there, open_listed, stream_there}

module _ (xs : List Stream) (n : ℕ) (x z : Stream) (s : states.Stream) (at : x ≡ get_or xs n x)
    (here : IsOpen (state_of_list xs) n s) where
  within : n < length xs
  within = open_listed xs n s here

  pub listed_after : AreListed xs → KeepsContents x z → AreListed (set xs n z)
  listed_after h same =
      listed_set xs n x z h at within
      (ap (λ f. stream_kind f z.parent) same.2 ∙ ap (stream_kind x.is_fork) same.0) same.0
      (ap (λ v. v.items) same.1)

  pub line_after : (r : StreamRead) (l : Result Line AllocError)
      → IfOk l (λ l. IsReadLine r l (stream_of x) (stream_of z))
      → IfOk l
      (λ l. IsLine l (state_of_list (set xs n z)) (state_of_list xs) (on n (commands.read r)))
  line_after r l h =
      let there = stream_there xs n x at within in
      IfOk-weaker l _ _
      (λ l h.
      line_there n (state_of_list xs) r (stream_of x) (stream_of z) l _
      (there, ap (λ z. z.is_open) (sym there ∙ here.0) ∙ here.1) h
      (changed_there xs n x z (λ _. stream_of z) at within refl)) h
