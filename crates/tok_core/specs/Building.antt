-- What a builder holds in the middle of a text: the trees before each group that is open, outermost
-- first, and those of the innermost level.
use Rattle.std.specs.Prelude.{◌≡◌, ℕ, ◌+◌, List, [], ◌∷◌, ◌++◌, refl}
use Rattle.std.specs.Coded.{Coded, code_by, coded×, coded_list}
use Rattle.tok_lexical.specs.declared.delimiter.Delimiter.{Delimiter}
use Rattle.tok_leaves.specs.declared.span.Span.{Span}
use Rattle.tok_leaves.specs.Leaves.{Leaf}
use Rattle.tok_core.specs.Code.{forest_code}
use Rattle.tok_core.specs.Forest.{leaf, group, Forest, no_trees, tree, concat}
use Rattle.tok_core.specs.Weight.{weight}

-- the trees of each open level; without an open group, `outer` is empty
pub record Levels : Type 0 where
  pub outer : List Forest
  pub inner : Forest

-- levels, as a model holds them
abbrev pub levels_code : Coded Levels
levels_code =
    code_by (List Forest × Forest) (coded× (coded_list forest_code) forest_code)
    (λ s. (s.outer, s.inner)) (λ p. record { outer = p.0; inner = p.1 }) (λ _. refl)

-- no trees, and no open group
abbrev pub nothing : Levels
nothing = record { outer = []; inner = no_trees }

-- these trees are put at the end of the innermost level
abbrev pub add_forest : Forest → Levels → Levels
add_forest f s = record { outer = s.outer; inner = concat s.inner f }

-- this leaf is put at the end of the innermost level
abbrev pub add_leaf : Leaf → Levels → Levels
add_leaf l s = add_forest (tree (leaf l) no_trees) s

-- a new innermost level
abbrev pub opened : Levels → Levels
opened s = record { outer = s.outer ++ s.inner ∷ []; inner = no_trees }

-- the innermost level becomes a group at the end of the one before
abbrev pub Closes : Delimiter → Span → Levels → Levels → Type 0
Closes delimiter span old new =
    (f : Forest) × (old.outer ≡ new.outer ++ f ∷ [])
    × (new.inner ≡ concat f (tree (group delimiter old.inner span) no_trees))

-- each of these forests but the last, and the last one
abbrev pub but_last : Forest → List Forest → List Forest
but_last f [] = []
but_last f (g ∷ s) = f ∷ but_last g s

-- the last of a list of forests that isn't empty: a first one, and the others
abbrev pub last_of : Forest → List Forest → Forest
last_of f [] = f
last_of f (g ∷ s) = last_of g s

-- the places of the groups that are to come, if the first level begins at this place
abbrev pub places : ℕ → List Forest → List ℕ
places n [] = []
places n (f ∷ s) = (n + weight f) ∷ places (n + weight f + 1) s

-- the levels of these forests, outermost first
abbrev pub levels_of : List Forest → Levels
levels_of [] = nothing
levels_of (f ∷ s) = record { outer = but_last f s; inner = last_of f s }
