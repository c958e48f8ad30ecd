use Rattle.std.proofs.Common.{◌≡◌, ◌<◌, sym, length, get_or, rules}
use Rattle.tok_lexical.proofs.Texts.{beyond_first, nothing_beyond}
use Rattle.tok_lexical.proofs.text.begins_beyond_ascii.Goals as goal

pub returns-in-Some : goal.returns-in-Some
returns-in-Some c =
    let some : 0 < length c.args.text.now = search rules in
    let is : c.in-Some.byte.now ≡ get_or c.args.text.now 0 0 = search rules in
    beyond_first c.args.text.now c.in-Some.byte.now c.utf8.text some is

pub returns-in-None : goal.returns-in-None
returns-in-None c =
    let none : length c.args.text.now ≡ 0 = search rules in
    sym (nothing_beyond c.args.text.now none)
