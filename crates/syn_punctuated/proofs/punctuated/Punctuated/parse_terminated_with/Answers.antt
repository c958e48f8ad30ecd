use Rattle.syn_parse.specs.Takings.{lighter, told}
use Rattle.syn_punctuated.proofs.ListTakes.{terminated_keeps}
use Rattle.syn_punctuated.proofs.Retold.{run_seen, same_rule}
use Rattle.syn_punctuated.proofs.punctuated.Punctuated.parse_terminated_with.Goals as goal

pub returns-clause-run : goal.returns-clause-run
returns-clause-run g c =
    run_seen _ _ (same_rule _) _ _ _ _ (λ f. f) (λ f h s t r k. k) (λ s t r k. k.0) _ _ _ _
    c.parse_list.ensures.run

pub returns-clause-takes : goal.returns-clause-takes
returns-clause-takes g c value less each go =
    terminated_keeps _ g.P.Parse.parses go (told (λ v. v) value (lighter less)) g.P.Parse.takes each
    c.args.parser c.args.input.now c.parse_list.new.input c.parse_list.result
    c.parse_list.ensures.run
