use Rattle.std.proofs.Common.{◌∙◌, sym, ap, subst}
use Rattle.std.specs.Prelude.{Err}
use Rattle.std.proofs.lemmas.Result.{err_from_is_err_and}
use Rattle.syn_parse.specs.State.{moved}
use Rattle.syn_replay.specs.Kinds.{read}
use Rattle.syn_replay.specs.Meanings.{kind_of}
use Rattle.syn_replay.specs.Session.Reading.{GivesAnswer, LeavesAt}
use Rattle.syn_replay.proofs.Walk.Parsed.{error_parsed, parsed_by}
use Rattle.syn_replay.proofs.session.reads.parse.Goals as goal

pub returns-in_err-parse : goal.returns-in_err-parse
returns-in_err-parse c =
    let kind = kind_of c.args.kind in
    let s = c.args.input.now in
    let t = c.parse.new.input in
    let x = parsed_by kind s (read kind s.place) in
    let e = err_from_is_err_and c.from_residual.result c.from_residual.ensures.1 in
    subst (λ r. GivesAnswer x.0 r × LeavesAt r t (moved x.1 s)) (sym (e.1 ∙ ap Err e.2))
    (error_parsed kind s t c.in_err-parse.field-0.0 c.in_err-parse.ensures)
