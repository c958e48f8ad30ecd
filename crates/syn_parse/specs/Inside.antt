-- Peeks into a group, by the visible trees ahead.
use Rattle.std.specs.Prelude.{Bool, false, Option, None, Some, option_map}
use Rattle.tok_lexical.specs.declared.delimiter.Delimiter.{Delimiter}
use Rattle.tok_core.specs.Forest.{Forest}
use Rattle.tok_buffer.specs.Entry.{enter}
use Rattle.tok_buffer.specs.InFront.{first_group}
use Rattle.tok_buffer.specs.Place.{Place}
use Rattle.syn_parse.specs.Reads.{PeeksPast}
use Rattle.syn_parse.specs.TreesAhead.{Ahead}

-- a peek at the start of a group's contents; false if no such group is next
abbrev pub PeeksInside : (Place → Bool → Type 0) → Delimiter → Place → Bool → Type 0
PeeksInside peeks d p found = PeeksPast peeks (option_map (λ e. e.content) (enter d p)) found

-- a test of the trees in a group; false if no such group is first
abbrev pub inside_passes : Delimiter → (Forest → Bool) → Forest → Bool
inside_passes d test f = elim (first_group d f) [ Some e ↦ test e.content | None ↦ false ]

-- the test of such a peek
abbrev pub inside : Delimiter → Option (Forest → Bool) → Option (Forest → Bool)
inside d sees = option_map (inside_passes d) sees

-- a test of the first trees in the group that is next
abbrev pub sees_inside : Delimiter → (Ahead → Bool) → Ahead → Bool
sees_inside d sees a = inside_passes d (λ f. sees (record a { trees = f })) a.trees
