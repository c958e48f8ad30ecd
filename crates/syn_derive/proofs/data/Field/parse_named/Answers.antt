use Rattle.std.proofs.Common.{[], ◌∷◌, Ok}
use Rattle.syn_derive.proofs.Follows.{after_punctuation}
use Rattle.syn_derive.proofs.data.Field.parse_named.Goals as goal
use Rattle.syn_parse.specs.Reads.{does}

pub returns-clause-kept : goal.returns-clause-kept
returns-clause-kept c =
    let before = c.parse-2.new.self in
    let after = c.parse-3.new.self in
    let colon = c.in_ok-colon_token.colon_token in
    let read = does _ before (Ok colon) after c.in_ok-colon_token.ensures.reads in
    let kept = does _ after (Ok c.in_ok-ty.ty) c.parse-4.new.self c.in_ok-ty.ensures.reads in
    (after.place, after_punctuation _ 58 (58 ∷ []) before after colon read, kept.0, kept.1)
