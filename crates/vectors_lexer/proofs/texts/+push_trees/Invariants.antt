use Rattle.vectors_lexer.proofs.texts.+push_trees.Given as goal

abbrev pub decreases-push_trees : goal.decreases-push_trees
decreases-push_trees l = l.levels
