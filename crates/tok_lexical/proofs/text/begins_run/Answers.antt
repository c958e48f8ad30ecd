use Rattle.std.proofs.Common.{◌≡◌, ◌<◌, ◌∙◌, sym, ap, length, get_or, rules}
use Rattle.tok_lexical.specs.Private.Fronts.{begins_passing}
use Rattle.tok_lexical.proofs.Runs.{passes_first}
use Rattle.tok_lexical.proofs.Texts.{nothing_begins}
use Rattle.tok_lexical.proofs.text.begins_run.Goals as goal

pub returns-in-Some : goal.returns-in-Some
returns-in-Some g c =
    let passes = g.S.ByteTest.passes c.args.test.now in
    let some : 0 < length c.args.text.now = search rules in
    let is : c.in-Some.byte.now ≡ get_or c.args.text.now 0 0 = search rules in
    c.holds.ensures ∙ ap passes is ∙ passes_first passes c.requires.ascii _ c.utf8.text some

pub returns-in-None : goal.returns-in-None
returns-in-None g c =
    let none : length c.args.text.now ≡ 0 = search rules in
    sym (ap (begins_passing (g.S.ByteTest.passes c.args.test.now))
    (nothing_begins c.args.text.now none))
