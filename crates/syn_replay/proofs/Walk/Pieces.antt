-- The pieces of what was read.
use Rattle.std.proofs.Common.{◌≡◌, ◌∙◌, sym, ap, subst, refl, ℕ, ◌<◌, ◌⊎◌, inl, inr, Bool, true}
use Rattle.std.proofs.Common.{List, [], ◌∷◌, ◌++◌, length, map, arith, Option, Some, None}
use Rattle.std.proofs.Common.{Ok, eqb-true}
use Rattle.std.proofs.lemmas.Bool.{cond-true, eq-eqb, and_parts}
use Rattle.std.proofs.lemmas.List.{append-nil, append_assoc, map-append}
use Rattle.std.proofs.lemmas.Option.{cond_some}
use Rattle.std.specs.Prelude.{◌==◌, cond, encode_utf8}
use Rattle.std.specs.Global.{Vec}
use Rattle.std.specs.Str.{chars}
use Rattle.tok_leaves.specs.declared.punct.Spacing.{Spacing}
use Rattle.tok_leaves.specs.declared.span.Span.{Span}
use Rattle.tok_leaves.specs.Leaves.{punct}
use Rattle.tok_core.specs.Forest.{Tree, leaf, tree_span}
use Rattle.tok_buffer.specs.Descent.{descend}
use Rattle.tok_buffer.specs.Place.{Place, front, pass}
use Rattle.tok_buffer.specs.Reads.{read_then, is_joint_of, is_punct_of, read_punctuation, sized}
use Rattle.tok_buffer.specs.Reads as reads
use Rattle.tok_buffer.specs.declared.error.Message.{Message}
use Rattle.syn_parse.specs.Parses.{AreSpans, PunctuationParses, ascii_chars}
use Rattle.syn_parse.specs.Reads.{Reads, ReadsAtOnce}
use Rattle.syn_parse.specs.State.{State}
use Rattle.syn_parse.specs.ErrorWords.{punctuation_message}
use Rattle.syn_replay.specs.Reports as reports
use Rattle.syn_replay.specs.Turns.{pieces_of}
use Rattle.syn_replay.specs.Session.Reading.{ArePieces, AfterPieces, punct_pieces}
use Rattle.syn_replay.specs.Meanings.{piece_of}
use Rattle.syn_replay.specs.declared.report.Piece.{Piece}
use Rattle.std.proofs.Common.{rules}

module _ {T : Type 0} (Means : T → List Tree → Type 0) (words : Message) (s : State) where
  -- a value that is read, as its pieces
  read-pieces : (x : Option (List Tree × Place)) (v : T) (ps : Vec Piece) (t : State)
      → ((ts : List Tree) → Means v ts → ArePieces ts ps) → Reads Means x words s (Ok v) t
      → AfterPieces x s ps t
  read-pieces None v ps t made h = absurd h
  read-pieces (Some r) v ps t made h = (r, refl, made r.0 h.0, h.1)

  at-once-pieces : (x : Option (List Tree × Place)) (v : T) (ps : Vec Piece) (t : State)
      → ((ts : List Tree) → Means v ts → x ≡ Some (ts, t.place) → ArePieces ts ps)
      → ReadsAtOnce Means x words s (Ok v) t → AfterPieces x s ps t
  at-once-pieces None v ps t made h = absurd h
  at-once-pieces (Some r) v ps t made h =
      (r, refl, made r.0 h.0 (ap (λ u. Some (r.0, u.place)) (sym h.1)), h.1)

-- the same of a value that stands for its trees
pub value-pieces : {T : Type 0} (trees_of : T
    → List Tree) (words : Message) (s : State) (x : Option (List Tree × Place)) (v : T)
    (ps : Vec Piece) (t : State) → Reads (λ v ts. ts ≡ trees_of v) x words s (Ok v) t
    → ArePieces (trees_of v) ps → AfterPieces x s ps t
value-pieces trees_of words s x v ps t h made = grind (arith, read-pieces)

-- a punct of a character
record IsPunctOf (c : ℕ) (t : Tree) : Type 0 where
  spacing : Spacing
  span : Span
  whole : t ≡ leaf (punct c spacing span)

of_single : (c : ℕ) (t : Tree) → is_punct_of c t ≡ true → IsPunctOf c t
of_single a0 a1 a2 = search (rules, eqb-true, and_parts)

of_joint : (c : ℕ) (t : Tree) → is_joint_of c t ≡ true → IsPunctOf c t
of_joint a0 a1 a2 = search (rules, eqb-true, and_parts)

-- the one tree that is taken
record IsTaken (wanted : Tree → Bool) (ts : List Tree) : Type 0 where
  one : Tree
  is_wanted : wanted one ≡ true
  whole : ts ≡ one ∷ []

taken_in : (wanted : Tree → Bool) (x : Option Tree) (p : Place) (r : List Tree × Place)
    → elim x [
      | Some t ↦ cond {A = Option (List Tree × Place)} (wanted t) (Some (t ∷ [], p)) None
      | None ↦ None
    ] ≡ Some r → IsTaken wanted r.0
taken_in a0 a1 a2 a3 a4 = search (rules, cond_some)

wanted_is_taken : (wanted : Tree → Bool) (d : Place) (r : List Tree × Place)
    → reads.read_if wanted d ≡ Some r → IsTaken wanted r.0
wanted_is_taken wanted d r e = taken_in wanted (front d) (pass d) r e

-- no character is left, or no span: all have become pieces
pub all_pieces : (made whole : List reports.Piece) (text : List ℕ) (spans : List Span)
    → (text ≡ []) ⊎ (spans ≡ []) → made ++ punct_pieces text spans ≡ whole → made ≡ whole
all_pieces made whole text spans none e =
    sym (append-nil made) ∙ ap (λ z. made ++ z) (sym (nothing text spans none)) ∙ e where
      nothing : (text : List ℕ) (spans : List Span) → (text ≡ []) ⊎ (spans ≡ [])
          → punct_pieces text spans ≡ []
      nothing [] spans none = refl
      nothing (c ∷ cs) [] none = refl
      nothing (c ∷ cs) (s ∷ spans) (inl h) = cc
      nothing (c ∷ cs) (s ∷ spans) (inr h) = cc

-- one more character has become a piece
pub one_more_piece : (items : List Piece) (piece : Piece) (whole : List reports.Piece)
    (text after : List ℕ) (spans others : List Span) (c : ℕ) (span : Span)
    → piece_of piece ≡ record { text = encode_utf8 c; span = span } → text ≡ c ∷ after
    → spans ≡ span ∷ others
    → map piece_of items ++ punct_pieces text spans ≡ whole
    → map piece_of (items ++ piece ∷ []) ++ punct_pieces after others ≡ whole
one_more_piece items piece whole text after spans others c span made t s e =
    grind (arith, map-append, append_assoc)

-- one read and then another
record IsBoth (x : Option (List Tree × Place)) (g : Place
    → Option (List Tree × Place)) (ts : List Tree) : Type 0 where
  first : List Tree × Place
  second : List Tree × Place
  is_first : x ≡ Some first
  is_second : g first.1 ≡ Some second
  whole : ts ≡ first.0 ++ second.0

both_read : (x : Option (List Tree × Place)) (g : Place
    → Option (List Tree × Place)) (r : List Tree × Place) → read_then x g ≡ Some r → IsBoth x g r.0
both_read a0 a1 a2 a3 = search rules

single_pieces : (c : ℕ) (cs : List ℕ) (t : Tree) (ts more : List Tree) → IsPunctOf c t
    → ts ≡ t ∷ more → pieces_of more ≡ punct_pieces cs (map tree_span more)
    → pieces_of ts ≡ punct_pieces (c ∷ cs) (map tree_span ts)
single_pieces c cs t ts more one e h = search rules

-- the pieces of a punctuation are its characters
pub punctuation-pieces : (text : List ℕ) (p : Place) (r : List Tree × Place)
    → read_punctuation text p ≡ Some r → pieces_of r.0 ≡ punct_pieces text (map tree_span r.0)
punctuation-pieces [] p r e = cc
punctuation-pieces (c ∷ []) p r e =
    let one = wanted_is_taken (is_punct_of c) (descend p) r e in
    single_pieces c [] one.one r.0 [] (of_single c one.one one.is_wanted) one.whole refl
punctuation-pieces (c ∷ (d ∷ cs)) p r e =
    let parts =
    both_read (reads.read_if (is_joint_of c) (descend p)) (read_punctuation (d ∷ cs)) r e in
    let one = wanted_is_taken (is_joint_of c) (descend p) parts.first parts.is_first in
    single_pieces c (d ∷ cs) one.one r.0 parts.second.0 (of_joint c one.one one.is_wanted)
    (parts.whole ∙ ap (λ z. z ++ parts.second.0) one.whole)
    (punctuation-pieces (d ∷ cs) parts.first.1 parts.second parts.is_second)

-- the characters of an ASCII text of the length that is asked for
module _ (n : ℕ) (text : List ℕ) (same : sized n text ≡ text) (ascii : chars text ≡ text) where
  own_chars : ascii_chars (sized n text) ≡ text
  own_chars = grind (arith, cond-true, eq-eqb)

  -- a punctuation that is read
  pub sized-pieces : (s : State) (spans : List Span) (ps : Vec Piece) (t : State)
      → PunctuationParses (λ v. v) (ascii_chars (sized n text)) (sized n text) s (Ok spans) t
      → map piece_of ps.items ≡ punct_pieces text spans
      → AfterPieces (read_punctuation text s.place) s ps t
  sized-pieces s spans ps t h made =
      let P : List ℕ → Type 0 = λ z. PunctuationParses (λ v. v) z (sized n text) s (Ok spans) t in
      let Q : List ℕ → Type 0 = λ z. PunctuationParses (λ v. v) text z s (Ok spans) t in
      at-once-pieces (λ v. AreSpans v) (punctuation_message text s) s
      (read_punctuation text s.place) spans ps t (λ ts m e.
      made ∙ ap (punct_pieces text) m
      ∙ sym (punctuation-pieces text s.place (ts, t.place) e))
      (subst Q same (subst P own_chars h))

-- a text of the length that is asked for, and one of at most one byte
pub sized_same : (n : ℕ) (text : List ℕ) → length text ≡ n → sized n text ≡ text
sized_same n text e = cond-true (length text == n) text [] (eq-eqb (length text) n e)

pub sized_short : (text : List ℕ) → length text < 2 → sized 1 text ≡ text
sized_short [] h = refl
sized_short (c ∷ []) h = refl
sized_short (c ∷ (d ∷ cs)) h = absurd (omega arith)
