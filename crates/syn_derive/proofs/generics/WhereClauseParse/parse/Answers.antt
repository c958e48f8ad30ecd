use Rattle.std.proofs.Common.{[], ◌∷◌, Ok}
use Rattle.syn_derive.proofs.Follows.{after_keyword}
use Rattle.syn_derive.proofs.generics.WhereClauseParse.parse.Goals as goal
use Rattle.syn_parse.specs.Reads.{does}

pub returns-clause-reads : goal.returns-clause-reads
returns-clause-reads c =
    let before = c.args.input.now in
    let after = c.parse.new.self in
    let word = c.in_ok-where_token.where_token in
    let read = does _ before (Ok word) after c.in_ok-where_token.ensures.reads in
    let kept = c.in_ok-predicates.ensures.kept in (
      after.place,
      after_keyword _ 119 (104 ∷ 101 ∷ 114 ∷ 101 ∷ []) before after word read,
      kept.0,
      kept.1,
    )
