use Rattle.std.proofs.Common.{◌≡◌, length, get_or, rules, arith}
use Rattle.tok_lexical.proofs.Texts.{nothing_begins}
use Rattle.tok_lexical.proofs.WhiteSpace.{other_begins}
use Rattle.tok_lexical.proofs.classes.may_begin_whitespace.Goals as goal

pub returns-in-Some : goal.returns-in-Some
returns-in-Some c begins =
    let is : c.in-Some.byte.now ≡ get_or c.args.text.now 0 0 = search rules in
    let high = c.if-byte-gt194.true in
    let told = other_begins c.args.text.now c.utf8.text (λ low. omega (arith, is, high)) begins in
    grind (arith, is, high, told)

pub returns-in-None : goal.returns-in-None
returns-in-None c begins =
    let none : length c.args.text.now ≡ 0 = search rules in
    rw (nothing_begins c.args.text.now none) at begins
