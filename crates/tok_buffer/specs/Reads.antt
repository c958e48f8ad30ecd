-- What is read at a place, and the place after it.
use Rattle.std.specs.Prelude.{ℕ, ◌==◌, ◌&&◌, not, Bool, true, false, if◌then◌else◌, List, [], ◌∷◌, ◌++◌}
use Rattle.std.specs.Prelude.{length, map, Option, Some, None, option_map, bytes_eq}
use Rattle.tok_lexical.specs.Ascii.{apostrophe}
use Rattle.tok_leaves.specs.declared.punct.Spacing.TheVariants.{Joint}
use Rattle.tok_core.specs.Clear.{is_joint_apostrophe}
use Rattle.tok_leaves.specs.declared.span.Span.{Span}
use Rattle.tok_leaves.specs.Leaves.{ident, punct}
use Rattle.tok_core.specs.Forest.{Tree, leaf, group, tree_span}
use Rattle.tok_core.specs.Kinds.{any_tree, is_ident, is_literal, is_punct}
use Rattle.tok_buffer.specs.Descent.{descend}
use Rattle.tok_buffer.specs.Place.{Place, front, pass}

-- the front tree, if it is wanted
abbrev pub read_if : (Tree → Bool) → Place → Option (List Tree × Place)
read_if wanted p =
    elim (front p) [
      | Some t ↦ if wanted t then Some (t ∷ [], pass p) else None
      | None ↦ None
    ]

-- the trees of one read and of another after it; `None` if either reads nothing
abbrev pub read_then : Option (List Tree × Place) → (Place → Option (List Tree × Place)) →
    Option (List Tree × Place)
read_then None g = None
read_then (Some r) g = elim (g r.1) [ Some q ↦ Some (r.0 ++ q.0, q.1) | None ↦ None ]

-- an identifier whose text, `r#` included, passes the test
abbrev pub is_ident_of : (List ℕ → Bool) → Tree → Bool
is_ident_of wanted (leaf (ident text span)) = wanted text
is_ident_of wanted t = false

-- a punct of this character, joint or not; no apostrophe is one
abbrev pub is_punct_of : ℕ → Tree → Bool
is_punct_of wanted (leaf (punct c spacing span)) = c == wanted && not (c == apostrophe)
is_punct_of wanted t = false

-- a joint punct of this character; no apostrophe is one
abbrev pub is_joint_of : ℕ → Tree → Bool
is_joint_of wanted (leaf (punct c Joint span)) = c == wanted && not (c == apostrophe)
is_joint_of wanted t = false

-- a group of any delimiter
abbrev pub is_group : Tree → Bool
is_group (group d inside span) = true
is_group t = false

-- the next visible tree if it is an identifier, and the place after it
abbrev pub read_ident : Place → Option (List Tree × Place)
read_ident p = read_if is_ident (descend p)

-- the next visible tree if it is a literal, and the place after it
abbrev pub read_literal : Place → Option (List Tree × Place)
read_literal p = read_if is_literal (descend p)

-- the next visible tree if it is a punct but no apostrophe, and the place after it
abbrev pub read_punct : Place → Option (List Tree × Place)
read_punct p = read_if is_punct (descend p)

-- the next visible tree if it is an identifier whose text passes the test
abbrev pub read_word : (List ℕ → Bool) → Place → Option (List Tree × Place)
read_word wanted p = read_if (is_ident_of wanted) (descend p)

-- an identifier of this text; the empty text is never read
abbrev pub read_keyword : List ℕ → Place → Option (List Tree × Place)
read_keyword [] p = None
read_keyword (c ∷ cs) p = read_word (bytes_eq (c ∷ cs)) p

-- a joint apostrophe, and then an identifier of which a test of its text is true
abbrev pub read_lifetime : (List ℕ → Bool) → Place → Option (List Tree × Place)
read_lifetime wanted p = read_then (read_if is_joint_apostrophe (descend p)) (read_word wanted)

-- the punct of a character, joint if more characters follow
abbrev pub is_next_of : ℕ → List ℕ → Tree → Bool
is_next_of c [] = is_punct_of c
is_next_of c (d ∷ cs) = is_joint_of c

-- the punct of this character, joint if more characters follow, and the place after it
abbrev pub read_next : ℕ → List ℕ → Place → Option (List Tree × Place)
read_next c cs p = read_if (is_next_of c cs) (descend p)

-- the puncts of a punctuation's characters, each but the last joint; the empty text is never read
abbrev pub read_punctuation : List ℕ → Place → Option (List Tree × Place)
read_punctuation [] p = None
read_punctuation (c ∷ []) p = read_if (is_punct_of c) (descend p)
read_punctuation (c ∷ (d ∷ cs)) p =
    read_then (read_if (is_joint_of c) (descend p)) (read_punctuation (d ∷ cs))

-- these characters if there are so many of them, else none
abbrev pub sized : ℕ → List ℕ → List ℕ
sized n cs = if length cs == n then cs else []

-- the spans of what is read, and the place after it
abbrev pub read_spans : Option (List Tree × Place) → Option (List Span × Place)
read_spans = option_map (λ r. (map tree_span r.0, r.1))

-- the front tree, visible or not, and the place after it; none at an end
abbrev pub read_tree : Place → Option (List Tree × Place)
read_tree = read_if any_tree

-- a test that every text passes
abbrev pub any_text : List ℕ → Bool
any_text s = true

-- the place after a read; `None` if nothing was read
abbrev pub place_after : Option (List Tree × Place) → Option Place
place_after None = None
place_after (Some r) = Some r.1

-- after the next token: a lifetime of any text, or else the front tree alone; none at an end
abbrev pub skip : Place → Option Place
skip p =
    elim (read_lifetime any_text p) [
      | Some r ↦ Some r.1
      | None ↦ place_after (read_tree (descend p))
    ]
