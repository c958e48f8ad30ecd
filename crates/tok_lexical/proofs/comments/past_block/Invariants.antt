use Rattle.std.proofs.Common.{ℕ, ◌+◌, ◌≤◌, List, length}
use denote.Text.{Utf8}
use denote.Shadow.{shadow}
use Rattle.std.specs.Str.{chars}
use Rattle.tok_lexical.proofs.NestedComments.{Stands}
use Rattle.tok_lexical.proofs.comments.past_block.Given as goal

abbrev pub invariant-loop-depth : goal.invariant-loop-depth
invariant-loop-depth l = shadow (Utf8 l.rest) × (l.depth + length l.rest ≤ length l.fn.text + 1)
    × ((front : List ℕ) × Stands (chars l.fn.text) (chars l.rest) front l.depth)

abbrev pub decreases-loop-depth : goal.decreases-loop-depth
decreases-loop-depth l = length l.rest
