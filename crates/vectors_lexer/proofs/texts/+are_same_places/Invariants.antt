use Rattle.vectors_lexer.proofs.texts.+are_same_places.Given as goal

abbrev pub decreases-are_same_places : goal.decreases-are_same_places
decreases-are_same_places l = l.levels
