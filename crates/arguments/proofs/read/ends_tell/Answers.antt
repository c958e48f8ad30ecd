use Rattle.std.proofs.lemmas.Grind.{common_steps}
use Rattle.std.proofs.Common.{arith, ◌≡◌, refl, true, None}
use Rattle.std.proofs.lemmas.Bool.{false≢true}
use Rattle.tok_buffer.proofs.ScopeEnds.{ends_scope}
use Rattle.tok_buffer.specs.Place.{Place, at, empty_place, frame, is_at_end}
use Rattle.tok_buffer.specs.Reads.{place_after, read_tree}
use Rattle.tok_buffer.specs.Trees.{here}
use Rattle.tok_core.specs.Forest.{no_trees, tree}
use Rattle.arguments.proofs.read.ends_tell.Goals as goal

no_tree : (p : Place) → is_at_end p ≡ true → place_after (read_tree p) ≡ None
no_tree empty_place h = refl
no_tree (at n s c (frame o p no_trees) ls) h = refl
no_tree (at n s c (frame o p (tree t f)) ls) h = absurd (false≢true h)

pub returns : goal.returns
returns c h = grind (arith, common_steps, ends_scope, here, no_tree)
