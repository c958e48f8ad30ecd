use Rattle.std.proofs.Common.{rules}
use Rattle.syn_punctuated.proofs.ListTakes.{terminated_keeps}
use Rattle.syn_punctuated.proofs.Retold.{run_seen, same_rule}
use Rattle.syn_punctuated.proofs.punctuated.Punctuated.parse_terminated.Goals as goal

pub returns-clause-run : goal.returns-clause-run
returns-clause-run g c =
    run_seen _ _ (same_rule _) _ _ _ _ (λ _. tt {0}) (λ f h s t r k. search rules) (λ s t r k. k.0)
    _ _ _ _
    c.parse_list.ensures.run

pub returns-clause-takes : goal.returns-clause-takes
returns-clause-takes g c go =
    terminated_keeps _ g.P.Parse.parses go g.T.Parse.takes g.P.Parse.takes
    (λ f h s t r k. search rules) _ c.args.input.now c.parse_list.new.input c.parse_list.result
    c.parse_list.ensures.run
