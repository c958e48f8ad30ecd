use Rattle.std.proofs.Common.{rules, inl, refl}
use Rattle.syn_parse.specs.declared.fault.Fault.TheVariants.{Refused}
use Rattle.syn_choices.proofs.ext.run_attempt.Goals as goal

pub returns-in-Err-Refused : goal.returns-in-Err-Refused
returns-in-Err-Refused g c =
    (Refused c.in-Err-Refused.field-0-0, c.parser.new.arg2, search rules, λ h. h, refl)

pub returns : goal.returns
returns g c = (inl (c.parser.new.arg2, search rules, tt), refl)
