use Rattle.std.proofs.Common.{◌≡◌, ◌∙◌, ap, []}
use Rattle.std.specs.Prelude.{reverse}
use Rattle.tok_core.specs.Building.{Levels}
use Rattle.tok_core.specs.Seen.{trees_of}
use Rattle.tok_core.proofs.Cuts.{none_open}
use Rattle.tok_core.proofs.lexer.build.TreeBuilder.into_stream.Goals as goal

pub returns : goal.returns
returns c =
    let old = c.self.inside.trees.items in
    let none : c.args.self.outer ≡ [] = c.requires in
    c.of_trees.ensures ∙ ap trees_of c.in_ok-fitted.ensures.kept
    ∙ none_open (reverse c.self.inside.starts.items) old
    (ap (λ (s : Levels). s.outer) c.self.view_is ∙ none)
    ∙ ap (λ (s : Levels). s.inner) c.self.view_is
