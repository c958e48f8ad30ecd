-- The trees that a token is written as.
use Rattle.std.specs.Prelude.{◌≡◌, ℕ, Bool, true, false, ◌==◌, ◌&&◌, if◌then◌else◌, List, [], ◌∷◌, length}
use Rattle.std.specs.List.{list_all}
use Rattle.tok_lexical.specs.declared.delimiter.Delimiter.{Delimiter}
use Rattle.tok_leaves.specs.declared.punct.Spacing.{Spacing}
use Rattle.tok_leaves.specs.declared.punct.Spacing.TheVariants.{Alone, Joint}
use Rattle.tok_leaves.specs.declared.span.Span.{Span}
use Rattle.tok_core.specs.Forest.{Tree, leaf, group, Forest, no_trees, tree, forest, concat}
use Rattle.tok_leaves.specs.Leaves.{ident, punct}
use Rattle.tok_leaves.specs.Spans.{call_site}
use Rattle.tok_lexical.specs.Characters.{is_punct_or_apostrophe}

-- an identifier of this text, and nothing for the empty one
abbrev pub word : List ℕ → Span → Forest
word [] span = no_trees
word (c ∷ cs) span = tree (leaf (ident (c ∷ cs) span)) no_trees

-- the first of some spans
abbrev pub first_span : List Span → Span
first_span [] = call_site
first_span (s ∷ ss) = s

-- of several puncts the last is alone and the others are joint
abbrev pub spacing : (is_last : Bool) → Spacing
spacing is_last = if is_last then Alone else Joint

-- a punct for each character, at the span of its own, each but the last joint
abbrev pub joint_puncts : List ℕ → List Span → List Tree
joint_puncts (c ∷ []) (s ∷ ss) = leaf (punct c (spacing true) s) ∷ []
joint_puncts (c ∷ (d ∷ cs)) (s ∷ ss) = leaf (punct c (spacing false) s) ∷ joint_puncts (d ∷ cs) ss
joint_puncts cs ss = []

-- these puncts; nothing if there aren't as many spans as characters, or if a character is no
-- punct's
abbrev pub puncts : List ℕ → List Span → Forest
puncts text spans =
    if length text == length spans && list_all is_punct_or_apostrophe text
    then forest (joint_puncts text spans) else no_trees

-- new is old and then a group, whose contents are what was written inside
abbrev pub Surrounds : (IsWritten : Forest → Type 0) → Delimiter → Span → (old new : Forest) →
    Type 0
Surrounds IsWritten delimiter span old new =
    (inside : Forest) × IsWritten inside
    × (new ≡ concat old (tree (group delimiter inside span) no_trees))
