use Rattle.std.proofs.Common.{sym, ◌∙◌}
use Rattle.replay_program.proofs.WordCuts.{is_empty_len, words_take, words_last, words_skip}
use Rattle.replay_program.proofs.command_text.first_word.Goals as goal

pub returns-in_default-clause-words : goal.returns-in_default-clause-words
returns-in_default-clause-words c =
    sym c.loop-rest.invariant.1
    ∙ words_last c.loop-rest.rest.now c.in_default.ensures.parts
    (sym (is_empty_len c.loop-rest.rest.now) ∙ sym c.is_empty.ensures ∙ c.loop-rest-test.true)

pub returns-then-not-is_empty-clause-words : goal.returns-then-not-is_empty-clause-words
returns-then-not-is_empty-clause-words c =
    sym c.loop-rest.invariant.1
    ∙ words_take c.loop-rest.rest.now c.in-Some.word.now c.in-Some.after.now
    c.in-Some.ensures.parts (sym (is_empty_len c.in-Some.word.now)
    ∙ sym c.is_empty-in-loop-rest.ensures ∙ c.if-not-is_empty.true)

pub loop-rest-preserved : goal.loop-rest-preserved
loop-rest-preserved c = (
  c.in-Some.ensures.utf8.1,
  sym (words_skip c.loop-rest.rest.now c.in-Some.word.now c.in-Some.after.now
      c.in-Some.ensures.parts (sym (is_empty_len c.in-Some.word.now)
      ∙ sym c.is_empty-in-loop-rest.ensures ∙ c.if-not-is_empty.false)) ∙ c.loop-rest.invariant.1,
)
