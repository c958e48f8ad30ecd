use Rattle.std.specs.Prelude.{codes}
use Rattle.tok_buffer.specs.Reads.{any_text}
use Rattle.syn_parse.proofs.Progress.{parses_on, parses_on_at_once, words_on}
use Rattle.syn_parse.proofs.laws.parses_go_on.Goals as goal

pub returns : goal.returns
returns c =
    let on = c.reads_go_on.ensures in
    record {
      idents = parses_on _ _ _ (on.leaves.words _);
      any_idents = parses_on _ _ _ on.leaves.idents;
      lifetimes = parses_on _ _ _ (on.leaves.lifetimes _);
      any_lifetimes = parses_on _ _ _ (on.leaves.lifetimes any_text);
      literals = parses_on _ _ _ on.leaves.literals;
      puncts = parses_on_at_once _ _ _ on.leaves.puncts;
      trees = parses_on _ _ _ on.trees;
      groups = parses_on _ _ _ (on.taken _);
      keywords = λ k. words_on _ _ (on.leaves.keywords _);
      punctuations = λ k n. parses_on_at_once _ _ _ (on.leaves.punctuations _);
      underscores = words_on _ (codes "_") (on.leaves.keywords (codes "_"));
    }
