use Rattle.vectors_streams.proofs.argument_lists.show.+add_list.Given as goal

abbrev pub decreases-add_list : goal.decreases-add_list
decreases-add_list l = l.depth
