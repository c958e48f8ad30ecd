-- The first and the last tree of a forest.
use Rattle.std.specs.Prelude.{Option, None, Some}
use Rattle.tok_leaves.specs.declared.span.Span.{Span}
use Rattle.tok_core.specs.Forest.{Forest, no_trees, tree, tree_span}

-- the spans of the first and the last of some trees, if there are any
abbrev pub Ends : Type 0
Ends = Option (Span × Span)

-- with one more tree, at this span
abbrev pub widened : Ends → Span → Span × Span
widened None span = (span, span)
widened (Some ends) span = (ends.0, span)

-- with all trees of a forest
abbrev pub ends_after : Ends → Forest → Ends
ends_after ends no_trees = ends
ends_after ends (tree t f) = ends_after (Some (widened ends (tree_span t))) f
