use Rattle.std.proofs.Common.{arith}
use Rattle.std.proofs.lemmas.List.{append-nil}
use Rattle.entry_outcomes.proofs.Messages.{each_is_all, texts_are_all}
use Rattle.entry_outcomes.proofs.answer.push_messages.Goals as goal

pub returns-clause-messages : goal.returns-clause-messages
returns-clause-messages c = grind (arith, each_is_all, append-nil)

pub returns-clause-texts : goal.returns-clause-texts
returns-clause-texts c = grind (arith, texts_are_all, append-nil)
