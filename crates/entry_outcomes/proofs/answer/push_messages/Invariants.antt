use Rattle.std.proofs.Common.{◌≡◌, ◌++◌, length, string_bytes}
use Rattle.tok_buffer.specs.Messages.{each_message}
use Rattle.entry_outcomes.proofs.Messages.{messages_each, texts_each}
use Rattle.entry_outcomes.proofs.answer.push_messages.Given as goal

abbrev pub invariant-loop-one : goal.invariant-loop-one
invariant-loop-one l =
    (goal.iterator-loop-one).can_next l.one-iterator
    × (goal.iterator-loop-one).is_finite l.one-iterator
    × (l.messages.items ++ messages_each (length (string_bytes l.texts)) l.one-iterator
    ≡ l.initial.messages.items
    ++ messages_each (length (string_bytes l.initial.texts)) (each_message l.fn.error))
    × (string_bytes l.texts ++ texts_each l.one-iterator
    ≡ string_bytes l.initial.texts ++ texts_each (each_message l.fn.error))
