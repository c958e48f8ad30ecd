use Rattle.std.proofs.Common.{rules, refl, sym, ◌∙◌}
use Rattle.syn_punctuated.proofs.PairsAdded.{some_is_bare, none_is_trailing, adds_more, bare_after}
use Rattle.syn_punctuated.proofs.PairsAdded.{trailing_after, match_fault}
use Rattle.syn_punctuated.specs.declared.extends.PairsFault.TheVariants.{Memory}
use Rattle.syn_punctuated.proofs.punctuated.Punctuated.push_pairs.Goals as goal

pub returns-then-is_some : goal.returns-then-is_some
returns-then-is_some g c =
    let i = c.loop-pair.invariant in
    let bare = i.bare (some_is_bare c.loop-pair.self (sym c.is_some.ensures ∙ c.if-is_some.true)) in
    record {
      first = _;
      taken = c.loop-pair.yielded;
      rest = c.loop-pair.pair-iterator;
      starts = c.into_iter-pair-iterator.ensures.into_iter_gives;
      yields = c.loop-pair.yielded_by;
      adds = i.added;
      ends = ((c.in-Some.pair, c.next.new.self, c.in-Some.ensures.steps), (λ _. bare, λ _. refl));
    }

pub returns-in_err-push_pair : goal.returns-in_err-push_pair
returns-in_err-push_pair g c =
    let i = c.loop-pair.invariant in
    let same = none_is_trailing c.loop-pair.self (sym c.is_some.ensures ∙ c.if-is_some.false) in
    let unchanged = c.in_err-push_pair.ensures.err in
    record {
      first = _;
      taken = c.loop-pair.yielded;
      rest = c.loop-pair.pair-iterator;
      starts = c.into_iter-pair-iterator.ensures.into_iter_gives;
      yields = c.loop-pair.yielded_by;
      adds =
          record {
            values =
                unchanged.0 ∙ i.added.values;
            separators =
                unchanged.1 ∙ i.added.separators;
            are_pairs = i.added.are_pairs;
          };
      ends =
          match_fault _ Memory _ c.from_residual.result c.from_residual.ensures.1 (
            (c.in-Some.pair, c.next.new.self, c.in-Some.ensures.steps),
            (λ e. cc, λ bare. absurd (i.trailing same bare)),
          );
    }

pub loop-pair-preserved : goal.loop-pair-preserved
loop-pair-preserved g c =
    let i = c.loop-pair.invariant in
    let mid = c.loop-pair.self in
    let same = none_is_trailing mid (sym c.is_some.ensures ∙ c.if-is_some.false) in
    let shut = i.trailing same in
    let values = c.in_ok-push_pair.ensures.values in
    let separators = c.in_ok-push_pair.ensures.separators in
    record {
      can = search rules;
      ends = search rules;
      added =
          adds_more c.args.self.now mid c.push_pair.new.self c.loop-pair.yielded c.in-Some.pair
          i.added shut values separators;
      bare =
          bare_after mid c.push_pair.new.self c.loop-pair.yielded i.added.are_pairs shut same
          c.in-Some.pair values separators;
      trailing =
          trailing_after mid c.push_pair.new.self c.loop-pair.yielded i.added.are_pairs shut same
          c.in-Some.pair values separators;
    }
