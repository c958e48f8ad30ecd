use Rattle.std.proofs.Common.{inr, rules, Err}
use Rattle.syn_parse.proofs.Returned.{error_keeps}
use Rattle.syn_parse.proofs.Sequences.{three_keep}
use Rattle.syn_parse.proofs.many.Tuple3Parse.parse.Goals as goal

pub returns-in_err-third-clause-takes : goal.returns-in_err-third-clause-takes
returns-in_err-third-clause-takes g c =
    error_keeps _ c.args.input.now c.parse-3.new.self c.in_err-third.field-0.0
    c.from_residual-in_err-third.result (search rules)
    (three_keep g.A.Parse.takes g.B.Parse.takes g.C.Parse.takes c.args.input.now
    (Err c.in_err-third.field-0.0) c.parse-3.new.self (inr (
      c.in_ok-first.first,
      c.parse.new.self,
      c.in_ok-first.ensures.takes,
      inr (
        c.in_ok-second.second,
        c.parse-2.new.self,
        c.in_ok-second.ensures.takes,
        c.in_err-third.ensures.takes,
      ),
    )))
