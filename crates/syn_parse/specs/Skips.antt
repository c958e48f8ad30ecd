-- Peeks past the next token, by the visible trees ahead.
use Rattle.std.specs.Prelude.{Bool, false, Option, None, Some, option_map}
use Rattle.tok_core.specs.Forest.{Forest, no_trees, tree}
use Rattle.tok_buffer.specs.EachRead.{first_lifetime}
use Rattle.tok_buffer.specs.Reads.{any_text}
use Rattle.syn_parse.specs.TreesAhead.{Ahead}

-- the trees after the first one
abbrev pub past_tree : Forest → Option Forest
past_tree no_trees = None
past_tree (tree t f) = Some f

-- the trees after the next token: a lifetime of any name, or one tree
unfoldable pub past_token : Forest → Option Forest
past_token f = elim (first_lifetime any_text f) [ Some r ↦ Some r.1 | None ↦ past_tree f ]

-- a test of the trees after the next token; false if there is none
abbrev pub next_passes : (Forest → Bool) → Forest → Bool
next_passes test f = elim (past_token f) [ Some g ↦ test g | None ↦ false ]

-- a test of the trees after the next token
abbrev pub second_sees : Option (Forest → Bool) → Option (Forest → Bool)
second_sees sees = option_map next_passes sees

-- a test of the trees after the next two tokens
abbrev pub third_sees : Option (Forest → Bool) → Option (Forest → Bool)
third_sees sees = second_sees (second_sees sees)

-- a test of the trees after the next token
abbrev pub sees_next : (Ahead → Bool) → Ahead → Bool
sees_next sees a = next_passes (λ f. sees (record a { trees = f })) a.trees
