use Rattle.std.proofs.Common.{rules}
use Rattle.syn_punctuated.proofs.ReadTokens.{read_again, not_refused}
use Rattle.syn_punctuated.proofs.laws.read_again.Goals as goal

pub returns : goal.returns
returns g c = read_again g.row.K g.row.N c.args.list.now c.requires.words c.requires.table
    c.requires.spans _ _ _ (search rules) c.in-Err.ensures.run

pub returns-in-Ok-finish : goal.returns-in-Ok-finish
returns-in-Ok-finish g c =
    let again = read_again g.row.K g.row.N c.args.list.now c.requires.words c.requires.table
    c.requires.spans _ _ _ (search rules) c.in-Ok.ensures.run in
    (again.0, again.1)

pub returns-in-Ok : goal.returns-in-Ok
returns-in-Ok g c =
    let again = read_again g.row.K g.row.N c.args.list.now c.requires.words c.requires.table
    c.requires.spans _ _ _ (search rules) c.in-Ok.ensures.run in
    absurd (not_refused _ _ _ again.2 c.in-Err-finish.ensures)
