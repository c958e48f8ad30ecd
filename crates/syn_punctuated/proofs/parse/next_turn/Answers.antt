use Rattle.std.proofs.Common.{◌∙◌, subst, sym}
use Rattle.tok_buffer.specs.Cursors.{place_of}
use Rattle.syn_punctuated.specs.Progress.{MakesNone}
use Rattle.syn_punctuated.proofs.Progress.{keeps_all}
use Rattle.syn_punctuated.proofs.parse.next_turn.Goals as goal

pub returns-else-has_passed-clause-progress : goal.returns-else-has_passed-clause-progress
returns-else-has_passed-clause-progress c =
    let start = place_of c.args.start in
    let stays = sym c.has_passed.ensures.test ∙ c.if-has_passed.false in
    let none : MakesNone start (place_of c.cursor-now.result) = (
      stays,
      keeps_all start (place_of c.cursor-now.result)
          (c.staying_adds_nothing.ensures c.cursor-now.result c.args.start) stays,
    ) in
    (subst (MakesNone start) c.cursor-now.ensures none, c.no_progress.ensures)
