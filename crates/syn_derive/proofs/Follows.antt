-- The place after a token of one tree.
use Rattle.std.proofs.Common.{arith, subst, ◌≡◌, ℕ, Bool, cond}
use Rattle.std.proofs.Common.{List, [], ◌∷◌, Option, None, Some, Ok}
use Rattle.tok_core.specs.Forest.{Tree}
use Rattle.tok_leaves.specs.declared.span.Span.{Span}
use Rattle.tok_buffer.specs.Descent.{descend}
use Rattle.tok_buffer.specs.Place.{Place, front, pass}
use Rattle.tok_buffer.specs.Reads.{is_punct_of, place_after, read_if, read_punctuation}
use Rattle.tok_core.specs.Kinds.{any_tree}
use Rattle.tok_buffer.specs.declared.error.Message.{Message}
use Rattle.syn_parse.specs.Parses.{PunctuationParses, WordParses}
use Rattle.syn_parse.specs.Reads.{TreesRead, ReadsAtOnce}
use Rattle.syn_parse.specs.State.{State}
use Rattle.syn_derive.specs.Runs.{IsAfterTree}

module _ (q : Place) where
  -- what is read where this tree is at the front
  abbrev read_of : (Tree → Bool) → Option Tree → Option (List Tree × Place)
  read_of wanted x = elim x [
    | Some t ↦ cond (wanted t) (Some (t ∷ [], pass q)) None
    | None ↦ None
  ]

  passed : (t : Tree) (b : Bool) (r : List Tree × Place)
      → cond b (Some (t ∷ [], pass q)) None ≡ Some r → Some (pass q) ≡ Some r.1
  passed t b r h = grind arith

  passes : (wanted : Tree → Bool) (x : Option Tree) (r : List Tree × Place)
      → read_of wanted x ≡ Some r → place_after (read_of any_tree x) ≡ Some r.1
  passes wanted x r h = grind (arith, passed)

-- a tree that is read is passed
pub after_read : (wanted : Tree → Bool) (p : Place) (r : List Tree × Place)
    → read_if wanted (descend p) ≡ Some r → IsAfterTree r.1
after_read wanted p r h = (p, passes (descend p) wanted (front (descend p)) r h)

-- where a token is read at once, the stream is after it
module _ {T : Type 0} (Means : T → List Tree → Type 0) (words : Message) (s t : State) (v : T) where
  moved-on : (read : TreesRead) → ReadsAtOnce Means read words s (Ok v) t
      → (r : List Tree × Place) × (read ≡ Some r) × (r.1 ≡ t.place)
  moved-on read h = grind arith

-- a punctuation of one character
pub after_punctuation : {T : Type 0} (spans_of : T → List Span) (c : ℕ) (text : List ℕ)
    (s t : State) (v : T) → PunctuationParses spans_of (c ∷ []) text s (Ok v) t
    → IsAfterTree t.place
after_punctuation spans_of c text s t v h =
    let m = moved-on _ _ s t v (read_punctuation (c ∷ []) s.place) h in
    subst IsAfterTree m.2 (after_read (is_punct_of c) s.place m.0 m.1)

-- a keyword
pub after_keyword : {T : Type 0} (span_of : T → Span) (c : ℕ) (cs : List ℕ) (s t : State) (v : T)
    → WordParses span_of (c ∷ cs) s (Ok v) t → IsAfterTree t.place
after_keyword span_of c cs s t v h = grind (arith, moved-on, after_read)
