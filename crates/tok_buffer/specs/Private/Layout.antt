-- How a forest is laid out in a buffer, and which forest is there.
use Rattle.std.specs.Prelude.{ℕ, ◌+◌, List, [], ◌∷◌, ◌++◌}
use Rattle.tok_lexical.specs.declared.delimiter.Delimiter.{Delimiter}
use Rattle.tok_leaves.specs.declared.span.Span.{Span}
use Rattle.tok_core.specs.Building.{Levels, levels_of}
use Rattle.tok_core.specs.Code.{top}
use Rattle.tok_leaves.specs.Leaves.{Leaf, ident, punct, literal, ident_of, punct_of, literal_of}
use Rattle.tok_core.specs.Forest.{Tree, leaf, group, Forest, no_trees, tree, reverse_onto}
use Rattle.tok_core.specs.Weight.{weight}
use Rattle.tok_buffer.specs.Place.{Enclosing, whole, in_group, Frame, frame}
use Rattle.tok_buffer.specs.declared.entry.Entry.{Entry}
use Rattle.tok_buffer.specs.declared.entry.Entry.TheVariants.{Ident, Punct, Literal, Group, End}
use Rattle.tok_buffer.specs.declared.entry.Held.{Held}
use Rattle.tok_buffer.specs.declared.entry.Held.TheVariants as held
use Rattle.tok_buffer.specs.declared.entry.Leaf.{Leaf as Lent}
use Rattle.tok_buffer.specs.declared.entry.Leaf.TheVariants as lent

-- the entry of a leaf, with the same parts
abbrev pub leaf_entry : Leaf → Entry
leaf_entry (ident text span) = Ident (record { text = text; span = span })
leaf_entry (punct c spacing span) = Punct (record { ch = c; spacing = spacing; span = span })
leaf_entry (literal text span) = Literal (record { text = text; span = span })

-- the leaf that is lent from an entry
abbrev pub leaf_in : Lent → Leaf
leaf_in (lent.Ident i) = ident_of i.now
leaf_in (lent.Punct p) = punct_of p.now
leaf_in (lent.Literal l) = literal_of l.now

-- the entry that has these contents
abbrev pub entry_of : Held → Entry
entry_of (held.Leaf l) = leaf_entry (leaf_in l)
entry_of (held.Group g k) = Group g.now k
entry_of (held.End k) = End k

-- the entry of a group's opening: its delimiter and span, and how far on the group's end is
abbrev pub group_entry : Delimiter → Span → Forest → Entry
group_entry d s c = Group (record { delimiter = d; span = s }) (weight c + 1)

-- the entries of trees in order: of a group an opening, those of its contents, and an end
abbrev pub layout : Forest → List Entry
layout no_trees = []
layout (tree (leaf l) f) = leaf_entry l ∷ layout f
layout (tree (group d c s) f) = group_entry d s c ∷ (layout c ++ End (weight c + 1) ∷ layout f)

-- the entries of a whole forest, and an end after them that reaches back to no opening
abbrev pub entries_of : Forest → List Entry
entries_of f = layout f ++ End 0 ∷ []

-- a tree put before those of the innermost level
abbrev pub stack_tree : Tree → List Forest → List Forest
stack_tree t [] = []
stack_tree t (f ∷ s) = tree t f ∷ s

-- the forests ahead, level by level, read from the back
abbrev pub stack_entry : Entry → List Forest → List Forest
stack_entry (Ident i) s = stack_tree (leaf (ident_of i)) s
stack_entry (Punct p) s = stack_tree (leaf (punct_of p)) s
stack_entry (Literal l) s = stack_tree (leaf (literal_of l)) s
stack_entry (Group g k) [] = []
stack_entry (Group g k) (c ∷ s) = stack_tree (group g.delimiter c g.span) s
stack_entry (End k) s = no_trees ∷ s

-- the levels ahead after all entries, read from the last to the first
abbrev pub stack_entries : List Entry → List Forest → List Forest
stack_entries [] s = s
stack_entries (x ∷ xs) s = stack_entry x (stack_entries xs s)

-- the forest that is in the entries
abbrev pub forest_in : List Entry → Forest
forest_in xs = top (stack_entries xs [])

-- how far an end reaches back
abbrev pub back : Frame → ℕ
back (frame whole p f) = 0
back (frame (in_group d s) p f) = weight (reverse_onto p f) + 1

-- the entry at the place in a frame: that of the next tree, or the end of the frame
abbrev pub entry_here : Frame → Entry
entry_here (frame o p no_trees) = End (back (frame o p no_trees))
entry_here (frame o p (tree (leaf l) f)) = leaf_entry l
entry_here (frame o p (tree (group d c s) f)) = group_entry d s c

-- the enclosure of a frame whose end reaches back to this entry
abbrev pub entry_enclosing : Entry → Enclosing
entry_enclosing (Group g k) = in_group g.delimiter g.span
entry_enclosing e = whole

-- The entries of levels that are open, outermost first: the end after each stands where the entry
-- of the next level's group is to come.
abbrev pub laid : List Forest → List Entry
laid [] = []
laid (f ∷ s) = layout f ++ End 0 ∷ laid s

-- the levels that are in the entries
abbrev pub levels_in : List Entry → Levels
levels_in xs = levels_of (stack_entries xs (no_trees ∷ []))
