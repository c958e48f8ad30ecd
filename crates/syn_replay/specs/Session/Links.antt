-- How the program finds the contents of a stream.
use Rattle.std.specs.Prelude.{◌≡◌, ℕ, ◌+◌, ◌<◌, if◌then◌else◌, List, [], ◌∷◌, drop, Some}
use Rattle.std.specs.List.{slice_get}
use Rattle.syn_replay.specs.Session.State.{AllStreams, StreamKind, is_content_of, kinds}
use Rattle.syn_replay.specs.Session.Stream.{state_of_list}
use Rattle.syn_replay.specs.declared.session.stream.Stream.{Stream}

-- the numbers of a stream's contents, by the kinds of the streams from this number on
abbrev pub contents_by_kind : (stream next : ℕ) → List StreamKind → List ℕ
contents_by_kind stream next [] = []
contents_by_kind stream next (kind ∷ kinds) =
    if is_content_of stream kind then next ∷ contents_by_kind stream (next + 1) kinds
    else contents_by_kind stream (next + 1) kinds

-- the contents of a stream from this number on, by number
abbrev pub contents : (stream from : ℕ) → AllStreams → List ℕ
contents stream from st = contents_by_kind stream from (drop from (kinds st))

-- a stream has a higher number than its parent, and lists its contents
pub record IsListed (ss : List Stream) (k : ℕ) (s : Stream) : Type 0 where
  pub parent : (p : ℕ) → s.parent ≡ Some p → p < k
  pub listed : s.contents.items ≡ contents k (k + 1) (state_of_list ss)

-- each stream lists the streams of its groups
abbrev pub AreListed : List Stream → Type 0
AreListed ss = (k : ℕ) (s : Stream) → slice_get ss k ≡ Some s → IsListed ss k s
