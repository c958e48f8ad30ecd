-- The messages of an error, one by one.
use Rattle.std.proofs.Common.{◌≡◌, ◌+◌, ℕ, List, [], ◌∷◌, ◌++◌, length, refl}
use Rattle.tok_buffer.specs.Messages.{each_message, first_message_span, first_text}
use Rattle.tok_buffer.specs.declared.error.Message.{Message as Said}
use Rattle.entry_outcomes.specs.Answers.{message_as, message_texts, messages}
use Rattle.entry_outcomes.specs.declared.outcome.Message.{Message}

-- the first messages of errors, if their texts begin at this byte
abbrev pub messages_each : ℕ → List (List Said) → List Message
messages_each at [] = []
messages_each at (e ∷ es) =
    message_as (first_message_span e) at (at + length (first_text e))
    ∷ messages_each (at + length (first_text e)) es

-- their texts
abbrev pub texts_each : List (List Said) → List ℕ
texts_each [] = []
texts_each (e ∷ es) = first_text e ++ texts_each es

-- an error's messages are those of its errors of one message
pub each_is_all : (at : ℕ) (e : List Said) → messages_each at (each_message e) ≡ messages at e
each_is_all at [] = refl
each_is_all at (m ∷ ms) = rw (each_is_all (at + length m.text) ms) refl

pub texts_are_all : (e : List Said) → texts_each (each_message e) ≡ message_texts e
texts_are_all [] = refl
texts_are_all (m ∷ ms) = rw (texts_are_all ms) refl
