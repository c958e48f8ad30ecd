-- All trees ahead, and a scope's delimiter.
use Rattle.std.specs.Prelude.{List, [], ◌∷◌}
use Rattle.tok_lexical.specs.declared.delimiter.Delimiter.{Delimiter}
use Rattle.tok_lexical.specs.declared.delimiter.Delimiter.TheVariants as delimiter
use Rattle.tok_core.specs.Forest.{Forest, no_trees, concat}
use Rattle.tok_buffer.specs.Place.{Enclosing, whole, in_group, Frame, frame, Place, empty_place, at}

-- the trees ahead in each frame, from the innermost out
abbrev pub rest_in : List Frame → Forest
rest_in [] = no_trees
rest_in (frame o p a ∷ ls) = concat a (rest_in ls)

-- all trees ahead up to the scope's end, invisible groups included
abbrev pub rest : Place → Forest
rest empty_place = no_trees
rest (at n s c l ls) = rest_in (l ∷ ls)

-- the delimiter of a group; `None` for the whole forest
abbrev pub enclosing_delimiter : Enclosing → Delimiter
enclosing_delimiter whole = delimiter.None
enclosing_delimiter (in_group d span) = d

-- the delimiter of the enclosure of the last frame
abbrev pub frames_delimiter : Frame → List Frame → Delimiter
frames_delimiter (frame o p a) [] = enclosing_delimiter o
frames_delimiter (frame o p a) (l ∷ ls) = frames_delimiter l ls

-- the delimiter of the scope's group; `None` for the whole forest and the empty place
abbrev pub scope_delimiter : Place → Delimiter
scope_delimiter empty_place = delimiter.None
scope_delimiter (at n s c l ls) = frames_delimiter l ls
