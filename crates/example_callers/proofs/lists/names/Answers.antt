use Rattle.tok_buffer.specs.Reads.{read_punctuation}
use Rattle.tok_types.specs.Looks.{PeeksFor}
use Rattle.tok_types.specs.Texts.{punctuation_word}
use Rattle.syn_punctuated.specs.Trees.{ident_sources, punctuation_sources}
use Rattle.example_callers.proofs.ListTrees.{both_if_ok}
use Rattle.example_callers.proofs.lists.names.Goals as goal

pub returns : goal.returns
returns c =
    let both =
    both_if_ok ident_sources punctuation_sources _ _
    (PeeksFor (read_punctuation (punctuation_word 7 1)))
    (c.lists_have_their_trees.ensures ident_sources punctuation_sources)
    c.tokens_state_trees.ensures.idents c.tokens_state_trees.ensures.punctuations _ _ _
    c.parse_terminated.ensures.run in
    record { trees = both.0; end = both.1 }
