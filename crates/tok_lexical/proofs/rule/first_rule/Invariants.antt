use Rattle.std.specs.Str.{chars}
use Rattle.tok_lexical.specs.Fits.{NoneBefore}
use Rattle.tok_lexical.proofs.rule.first_rule.Given as goal

abbrev pub invariant-loop-rule : goal.invariant-loop-rule
invariant-loop-rule l = NoneBefore l.those (chars l.text) l.rule-index
