use Rattle.std.proofs.Common.{ap, ◌∙◌, ◌++◌, map}
use Rattle.syn_punctuated.specs.Pairs.{value_of_pair}
use Rattle.syn_punctuated.specs.Adds.{separators_in}
use Rattle.syn_punctuated.proofs.PairsAdded.{if_fault}
use Rattle.syn_punctuated.proofs.punctuated.Punctuated.from_pairs.Goals as goal

pub returns-clause-ok : goal.returns-clause-ok
returns-clause-ok g c =
    let pushed = c.in_ok-push_pairs.ensures in
    let made = c.new-list.ensures in
    record {
      first = pushed.first;
      taken = pushed.taken;
      starts = pushed.starts;
      drains = (pushed.ends.0, (pushed.rest, pushed.yields, pushed.ends.1));
      values =
          pushed.adds.values ∙ ap (λ front. front ++ map value_of_pair pushed.taken) made.values;
      separators =
          pushed.adds.separators
          ∙ ap (λ front. front ++ separators_in pushed.taken) made.separators;
      are_pairs = pushed.adds.are_pairs;
    }

pub returns-in_err-push_pairs-clause-err : goal.returns-in_err-push_pairs-clause-err
returns-in_err-push_pairs-clause-err g c =
    let pushed = c.in_err-push_pairs.ensures in
    if_fault _ _ c.from_residual.result c.from_residual.ensures.1 (record {
      first = pushed.first;
      taken = pushed.taken;
      rest = pushed.rest;
      starts = pushed.starts;
      yields = pushed.yields;
      are_pairs = pushed.adds.are_pairs;
      stops = pushed.ends;
    })
