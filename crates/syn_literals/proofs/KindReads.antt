-- A literal of a kind, where a literal is read.
use Rattle.std.proofs.Common.{arith, ◌≡◌, ℕ, Bool, true, false, cond, List, []}
use Rattle.std.proofs.Common.{◌∷◌, Option, Some, None, is_some}
use Rattle.std.proofs.lemmas.Bool.{false≢true}
use Rattle.std.specs.Prelude.{Result}
use Rattle.tok_leaves.specs.declared.literal.Literal.{Literal}
use Rattle.tok_leaves.specs.declared.span.Span.{Span}
use Rattle.tok_leaves.specs.Leaves.{literal}
use Rattle.tok_core.specs.Forest.{leaf}
use Rattle.tok_buffer.specs.Place.{Place}
use Rattle.tok_buffer.specs.Reads.{read_if, read_literal}
use Rattle.tok_core.specs.Kinds.{is_literal}
use Rattle.tok_buffer.specs.declared.error.Message.{Message}
use Rattle.syn_parse.specs.Parses.{IsLiteral, LiteralParses}
use Rattle.syn_parse.specs.Reads.{TreesRead, Reads}
use Rattle.syn_parse.specs.State.{State}
use Rattle.syn_parse.specs.declared.fault.Fault.{Fault}
use Rattle.syn_literals.specs.Kinds.{KindParses, is_literal_of, read_literal_of}

pub not_some : {A : Type 0} (x : Option A) → is_some x ≡ false → x ≡ None
not_some x e = grind arith

module _ (w : List ℕ → Bool) where
  of_any : (q : Place) (text : List ℕ) (span : Span) (r : Place)
      → read_if is_literal q ≡ Some (leaf (literal text span) ∷ [], r)
      → read_if (is_literal_of w) q ≡ cond (w text) (Some (leaf (literal text span) ∷ [], r)) None
  of_any q text span r e = grind arith

  -- where no literal is, none of a kind is
  pub no_kind : (q : Place) → read_if is_literal q ≡ None → read_if (is_literal_of w) q ≡ None
  no_kind q e = grind arith

  cond_is_some : {A : Type 0} (b : Bool) (x : A) → is_some (cond b (Some x) None) ≡ b
  cond_is_some b x = grind arith

  -- a literal that is read is of a kind exactly if its text is accepted
  pub kind_wanted : (p : Place) (text : List ℕ) (span : Span) (r : Place)
      → read_literal p ≡ Some (leaf (literal text span) ∷ [], r)
      → is_some (read_literal_of w p) ≡ w text
  kind_wanted p text span r e = grind (arith, of_any, cond_is_some)

  cond_found : {A : Type 0} (b : Bool) (x : A) → is_some (cond b (Some x) None) ≡ true
      → Some x ≡ cond b (Some x) None
  cond_found b x h = grind (arith, false≢true)

  -- a literal of a kind is the literal that is read
  found : (q : Place) → is_some (read_if (is_literal_of w) q) ≡ true
      → read_if is_literal q ≡ read_if (is_literal_of w) q
  found q h = grind (arith, cond_found)

  module _ (words : List ℕ) (s t : State) where
    -- the words of an error do not matter where something is read
    other-words : (x : TreesRead) (m n : Message) (r : Result Literal Fault) → is_some x ≡ true
        → Reads IsLiteral x m s r t → Reads IsLiteral x n s r t
    other-words x m n r h k = grind (arith, false≢true)

    -- a literal is parsed where one of a kind is next
    pub kind_parsed : (r : Result Literal Fault) → is_some (read_literal_of w s.place) ≡ true
        → LiteralParses s r t → KindParses w words s r t
    kind_parsed r h k = grind (arith, other-words, found)
