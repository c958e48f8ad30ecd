use Rattle.std.proofs.Common.{rules}
use Rattle.syn_punctuated.proofs.ListTakes.{separated_keeps}
use Rattle.syn_punctuated.proofs.Retold.{only_peeks, run_seen}
use Rattle.syn_punctuated.proofs.punctuated.Punctuated.parse_separated_nonempty.Goals as goal

pub returns-clause-run : goal.returns-clause-run
returns-clause-run g c =
    run_seen _ _ (only_peeks g.P.Token.peeks g.P.Token.sees) _ _ _ _ (λ _. tt {0})
    (λ f h s t r k. search rules) (λ s t r k. k.0) _ _ _ _ c.parse_list.ensures.run

pub returns-clause-takes : goal.returns-clause-takes
returns-clause-takes g c go =
    separated_keeps _ g.P.Parse.parses go g.P.Token.peeks g.P.Token.sees g.T.Parse.takes
    g.P.Parse.takes
    (λ f h s t r k. search rules) _ c.args.input.now c.parse_list.new.input c.parse_list.result
    c.parse_list.ensures.run
