-- What an export returns and writes.
use Rattle.std.specs.Prelude.{◌≡◌, ◌≤◌, ◌+◌, ℕ, List, [], ◌∷◌, ◌++◌, length, drop, string_bytes}
use Rattle.std.specs.Prelude.{Result, Ok, Err}
use Rattle.std.specs.declared.alloc.AllocError.{AllocError}
use Rattle.tok_leaves.specs.declared.span.Span.{Span}
use Rattle.tok_buffer.specs.Messages.{message_span}
use Rattle.tok_buffer.specs.declared.error.Message.{Message as Said}
use Rattle.tok_entries.specs.Entries.{end_byte, first_byte}
use Rattle.tok_entries.specs.declared.intake.fault.Refusal.{Refusal}
use Rattle.tok_entries.specs.declared.intake.fault.Refusal.TheVariants.{Shape, Text, Depth}
use Rattle.entry_outcomes.specs.declared.answer.Answer.{Answer}
use Rattle.entry_outcomes.specs.declared.outcome.Message.{Message}
use Rattle.entry_outcomes.specs.declared.outcome.Outcome.{Outcome}
use Rattle.entry_outcomes.specs.declared.parse.EntriesFault.{EntriesFault}
use Rattle.entry_outcomes.specs.declared.parse.EntriesFault.TheVariants.{Malformed, Rejected, Memory}

-- all that there is to write
pub record Given (A : Type 0) : Type 0 where
  pub status : ℕ
  pub refusal : ℕ
  pub entry : ℕ
  pub values : List A
  pub messages : List Message
  pub bytes : List ℕ

-- what an answer has to write
abbrev pub answered : {A : Type 0} → Answer A → Given A
answered a =
    record {
      status = a.status;
      refusal = a.refusal;
      entry = a.entry;
      values = a.values.items;
      messages = a.messages.items;
      bytes = string_bytes a.texts;
    }

-- a status and a text
abbrev pub given_text : {A : Type 0} → ℕ → List ℕ → Given A
given_text status bytes =
    record { status = status; refusal = 0; entry = 0; values = []; messages = []; bytes = bytes }

-- a status, and nothing to write
abbrev pub bare : {A : Type 0} → ℕ → Given A
bare status = given_text status []

-- the number of each reason to reject an entry, from 1 to 3
abbrev pub refusal_number : Refusal → ℕ
refusal_number Shape = 1
refusal_number Text = 2
refusal_number Depth = 3

-- the message at this span, whose text is this range of the bytes
abbrev pub message_as : Span → ℕ → ℕ → Message
message_as span from to =
    record {
      start = first_byte span;
      end = end_byte span;
      text_start = from;
      text_end = to;
    }

-- the messages of an error, if their texts begin at this byte
abbrev pub messages : ℕ → List Said → List Message
messages at [] = []
messages at (m ∷ ms) =
    message_as (message_span m) at (at + length m.text) ∷ messages (at + length m.text) ms

-- the texts of an error's messages, in order
abbrev pub message_texts : List Said → List ℕ
message_texts [] = []
message_texts (m ∷ ms) = m.text ++ message_texts ms

-- all messages of an error, each with its span and text
abbrev pub given_error : {A : Type 0} → List Said → Given A
given_error e =
    record {
      status = 1;
      refusal = 0;
      entry = 0;
      values = [];
      messages = messages 0 e;
      bytes = message_texts e;
    }

-- an error; the first entry that does not fit, and why; or an allocation failure
abbrev pub given_of_fault : {A : Type 0} → EntriesFault → Given A
given_of_fault (Malformed refusal entry) =
    record {
      status = 6;
      refusal = refusal_number refusal;
      entry = entry;
      values = [];
      messages = [];
      bytes = [];
    }
given_of_fault (Rejected e) = given_error e
given_of_fault Memory = bare 3

-- these come first, and the rest is as before
abbrev pub Fronts : {A : Type 0} → List A → (old new : List A) → Type 0
Fronts written old new = new ≡ written ++ drop (length written) old

-- there is room for all that is given
pub record HasRoom {A : Type 0} (g : Given A) (values : List A) (messages : List Message)
    (bytes : List ℕ) : Type 0 where
  pub for_values : length g.values ≤ length values
  pub for_messages : length g.messages ≤ length messages
  pub for_bytes : length g.bytes ≤ length bytes

-- What is given is returned, and written over the front of what the caller lends, if there is room
-- for all of it; if not, nothing is written, and the status says so. How much there is to write is
-- returned either way.
pub record Returns {A : Type 0} (g : Given A) (o : Outcome) (old new : List A)
    (before after : List Message) (from to : List ℕ) : Type 0 where
  pub count : o.values ≡ length g.values
  pub said : o.messages ≡ length g.messages
  pub size : o.bytes ≡ length g.bytes
  pub room : HasRoom g old before from →
      (o.status ≡ g.status) × (o.refusal ≡ g.refusal) × (o.entry ≡ g.entry)
      × Fronts g.values old new × Fronts g.messages before after × Fronts g.bytes from to
  pub no_room : (HasRoom g old before from → ⊥) →
      (o.status ≡ 4) × (o.refusal ≡ 0) × (o.entry ≡ 0) × (new ≡ old) × (after ≡ before)
      × (to ≡ from)

-- an answer is written, or the status says that an allocation failed
abbrev pub Writes : {A : Type 0} → Result (Answer A) AllocError → Outcome → (old new : List A)
    → (before after : List Message) → (from to : List ℕ) → Type 0
Writes (Ok a) o old new before after from to = Returns (answered a) o old new before after from to
Writes (Err e) o old new before after from to = Returns (bare 3) o old new before after from to

-- something is written, if there is room for all of it, and else nothing
abbrev pub IsWritten : {A : Type 0} → Outcome → (old new : List A) → (before after : List Message)
    → (from to : List ℕ) → Type 0
IsWritten {A} o old new before after from to =
    (given : Given A) × Returns given o old new before after from to
