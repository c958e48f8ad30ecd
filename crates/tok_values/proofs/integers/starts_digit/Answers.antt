use Rattle.std.proofs.Common.{◌≡◌, ◌<◌, ◌∙◌, ap, get_or, length, rules, sym}
use Rattle.tok_lexical.specs.Numbers.{starts_digit}
use Rattle.tok_lexical.proofs.Texts.{nothing_begins}
use Rattle.tok_values.proofs.Numerals.{first_digit}
use Rattle.tok_values.proofs.integers.starts_digit.Goals as goal

pub returns-in-Some : goal.returns-in-Some
returns-in-Some c =
    let some : 0 < length c.args.text.now = search rules in
    let is : c.in-Some.first.now ≡ get_or c.args.text.now 0 0 = search rules in
    c.is_digit.ensures.value ∙ first_digit c.args.text.now c.in-Some.first.now c.utf8.text some is

pub returns-in-None : goal.returns-in-None
returns-in-None c =
    let none : length c.args.text.now ≡ 0 = search rules in
    sym (ap starts_digit (nothing_begins c.args.text.now none))
