-- The reads of leaves, and what each takes of the visible trees ahead.
use Rattle.std.specs.Prelude.{ℕ, Bool, if◌then◌else◌, List, [], ◌∷◌, ◌++◌, Option, Some, None, bytes_eq}
use Rattle.tok_core.specs.Clear.{is_joint_apostrophe}
use Rattle.tok_core.specs.Forest.{Tree, Forest, no_trees, tree}
use Rattle.tok_buffer.specs.Place.{Place}
use Rattle.tok_buffer.specs.Reads.{is_ident_of, is_joint_of}
use Rattle.tok_core.specs.Kinds.{is_ident, is_literal, is_punct}
use Rattle.tok_buffer.specs.Reads.{is_punct_of, read_ident, read_keyword, read_lifetime}
use Rattle.tok_buffer.specs.Reads.{read_literal, read_punct, read_punctuation, read_word}

-- the trees read at a place, and the place after them
abbrev pub Read : Type 0
Read = Place → Option (List Tree × Place)

-- the first of some trees, and the trees after them
abbrev pub First : Type 0
First = Forest → Option (List Tree × Forest)

-- the first tree, if it is wanted, and the trees after it
abbrev pub first_if : (Tree → Bool) → First
first_if wanted no_trees = None
first_if wanted (tree t f) = if wanted t then Some (t ∷ [], f) else None

-- the trees of one read and of another after it; `None` if either finds nothing
abbrev pub and_first : Option (List Tree × Forest) → First → Option (List Tree × Forest)
and_first None g = None
and_first (Some r) g = elim (g r.1) [ Some q ↦ Some (r.0 ++ q.0, q.1) | None ↦ None ]

-- an identifier of this text; the empty text is never first
abbrev pub first_keyword : List ℕ → First
first_keyword [] f = None
first_keyword (c ∷ cs) f = first_if (is_ident_of (bytes_eq (c ∷ cs))) f

-- a joint apostrophe, and an identifier of which a test of its text is true
abbrev pub first_lifetime : (List ℕ → Bool) → First
first_lifetime wanted f =
    and_first (first_if is_joint_apostrophe f) (first_if (is_ident_of wanted))

-- the puncts of a text, each but the last joint, and the trees after them
abbrev pub first_puncts : List ℕ → First
first_puncts [] f = None
first_puncts (c ∷ []) f = first_if (is_punct_of c) f
first_puncts (c ∷ (d ∷ cs)) f = and_first (first_if (is_joint_of c) f) (first_puncts (d ∷ cs))

-- a property of each read of leaves, with what the read takes of the visible trees ahead
pub record EachRead (P : Read → First → Type 0) : Type 0 where
  pub idents : P read_ident (first_if is_ident)
  pub words : (wanted : List ℕ → Bool) → P (read_word wanted) (first_if (is_ident_of wanted))
  pub keywords : (text : List ℕ) → P (read_keyword text) (first_keyword text)
  pub lifetimes : (wanted : List ℕ → Bool) → P (read_lifetime wanted) (first_lifetime wanted)
  pub literals : P read_literal (first_if is_literal)
  pub puncts : P read_punct (first_if is_punct)
  pub punctuations : (text : List ℕ) → P (read_punctuation text) (first_puncts text)
