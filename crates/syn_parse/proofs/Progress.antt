-- Parses of one read go on as their read does.
use Rattle.std.proofs.Common.{arith, ◌≡◌, ap, refl, ℕ, List, Some, None, Ok}
use Rattle.std.specs.Prelude.{Result}
use Rattle.tok_core.specs.Forest.{Tree}
use Rattle.tok_buffer.specs.Place.{Place}
use Rattle.tok_buffer.specs.Progress.{ReadsOn}
use Rattle.tok_buffer.specs.Reads.{read_keyword}
use Rattle.tok_buffer.specs.declared.error.Message.{Message}
use Rattle.tok_leaves.specs.declared.span.Span.{Span}
use Rattle.tok_types.specs.Texts.{in_backquotes}
use Rattle.syn_parse.specs.Parses.{IsSpanOf, WordParses}
use Rattle.syn_parse.specs.ErrorWords.{expected, refused_at}
use Rattle.syn_parse.specs.Progress.{ParsesOn}
use Rattle.syn_parse.specs.Reads.{TreesRead, Reads, ReadsAtOnce}
use Rattle.syn_parse.specs.State.{State}
use Rattle.syn_parse.specs.declared.fault.Fault.{Fault}

-- a value comes of a read, and the stream is at the place after it
pub record CameOf (x : TreesRead) (t : State) : Type 0 where
  pub trees : List Tree
  pub after : Place
  pub read : x ≡ Some (trees, after)
  pub is_at : t.place ≡ after

module _ {T : Type 0} (Means : T → List Tree → Type 0) (s : State) where
  came_of : (x : TreesRead) (words : Message) (v : T) (t : State) → Reads Means x words s (Ok v) t
      → CameOf x t
  came_of None words v t h = absurd h
  came_of (Some r) words v t h =
      record { trees = r.0; after = r.1; read = refl; is_at = ap (λ u. u.place) h.1 }

  -- a read that takes no memory is a read
  pub at_once : (x : TreesRead) (words : Message) (r : Result T Fault) (t : State)
      → ReadsAtOnce Means x words s r t → Reads Means x words s r t
  at_once x words r t h = grind arith

module _ {T : Type 0} (Means : T → List Tree → Type 0) (read : Place → TreesRead) (words : State
    → Message) (on : ReadsOn read) where
  pub parses_on : ParsesOn {T = T} (λ s. Reads Means (read s.place) (words s) s)
  parses_on = grind (arith, came_of)

  pub parses_on_at_once : ParsesOn {T = T} (λ s. ReadsAtOnce Means (read s.place) (words s) s)
  parses_on_at_once = grind (arith, parses_on, at_once)

pub words_on : {T : Type 0} (span_of : T → Span) (text : List ℕ) → ReadsOn (read_keyword text)
    → ParsesOn (WordParses span_of text)
words_on span_of text on =
    parses_on_at_once (λ v. IsSpanOf text (span_of v)) (read_keyword text)
    (λ s. refused_at s (expected (in_backquotes text))) on
