-- A text as it lies in memory: in place with its length, or on the heap.
use Rattle.std.specs.Prelude.{◌≡◌, ℕ, ◌<◌, ◌≤◌, List, length, take, true, string_bytes}
use Rattle.std.specs.Arc.{arc_value}
use Rattle.std.specs.Str.{is_utf8}
use Rattle.tok_leaves.specs.Leaves.{most_short}
use Rattle.tok_leaves.specs.declared.text.Node.{Node}
use Rattle.tok_leaves.specs.declared.text.Node.TheVariants.{Short, Medium, Long}

-- the bytes of the text
abbrev pub bytes_of : Node → List ℕ
bytes_of (Short size bytes) = take size bytes
bytes_of (Medium block) = take (arc_value block).len (arc_value block).bytes
bytes_of (Long text) = string_bytes (arc_value text)

-- the most bytes of a text in a block
abbrev pub most_medium : ℕ
most_medium = 47

-- a text in place or in a block has no more bytes than fit, and is UTF-8; one in a block or in a
-- string has more than fit in place
abbrev pub IsKept : Node → Type 0
IsKept (Short size bytes) = (size ≤ most_short) × (is_utf8 (take size bytes) ≡ true)
IsKept (Medium block) = ((arc_value block).len ≤ most_medium)
    × (is_utf8 (take (arc_value block).len (arc_value block).bytes) ≡ true)
    × (most_short < length (take (arc_value block).len (arc_value block).bytes))
IsKept (Long text) = most_short < length (string_bytes (arc_value text))
