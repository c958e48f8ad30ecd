use Rattle.syn_parse.specs.Takings.{lighter, told}
use Rattle.syn_punctuated.proofs.ListTakes.{separated_keeps}
use Rattle.syn_punctuated.proofs.Retold.{only_peeks, run_seen}
use Rattle.syn_punctuated.proofs.punctuated.Punctuated.parse_separated_nonempty_with.Goals as goal

pub returns-clause-run : goal.returns-clause-run
returns-clause-run g c =
    run_seen _ _ (only_peeks g.P.Token.peeks g.P.Token.sees) _ _ _ _ (λ f. f) (λ f h s t r k. k)
    (λ s t r k. k.0) _ _ _ _ c.parse_list.ensures.run

pub returns-clause-takes : goal.returns-clause-takes
returns-clause-takes g c value less each go =
    separated_keeps _ g.P.Parse.parses go g.P.Token.peeks g.P.Token.sees
    (told (λ v. v) value (lighter less)) g.P.Parse.takes each c.args.parser c.args.input.now
    c.parse_list.new.input c.parse_list.result c.parse_list.ensures.run
