use Rattle.std.proofs.Common.{map}
use Rattle.tok_types.specs.Texts.{text_in}
use Rattle.tok_types.proofs.Numbers.{PassedOver}
use Rattle.tok_types.proofs.texts.number_among.Given as goal

abbrev pub invariant-loop-number : goal.invariant-loop-number
invariant-loop-number l = PassedOver (map text_in l.rows) l.numbers l.text l.number-index
