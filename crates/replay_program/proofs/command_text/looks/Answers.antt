use Rattle.std.proofs.Common.{◌∙◌, ◌++◌, ap, sym, map}
use Rattle.std.proofs.lemmas.List.{map-append}
use Rattle.std.specs.Option.{option_map}
use Rattle.replay_program.specs.CommandText.{all_looks, words}
use Rattle.syn_replay.specs.Meanings.{look_of}
use Rattle.replay_program.proofs.Looks.{looks_more}
use Rattle.replay_program.proofs.command_text.looks.Goals as goal

pub loop-word-preserved : goal.loop-word-preserved
loop-word-preserved c =
    let before = map look_of c.loop-word.looks.items in
    let word = c.in-Some.word.now in
    let rest = words c.in-Some.after.now in (
      c.in-Some.ensures.utf8.1,
      ap (λ z. option_map (λ ls. map look_of z ++ ls) (all_looks rest)) c.in_ok-push.ensures.items
          ∙ ap (λ z. option_map (λ ls. z ++ ls) (all_looks rest))
          (map-append look_of c.loop-word.looks.items _)
          ∙ looks_more before word rest (look_of c.in-Some-look.look) (sym c.in-Some-look.ensures)
          ∙ ap (λ z. option_map (λ ls. before ++ ls) (all_looks z)) (sym c.in-Some.ensures.words)
          ∙ c.loop-word.invariant.1,
    )
