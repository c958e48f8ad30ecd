-- Structs in which each field has a value of its own: no two fields of all samples have the same
-- number.
use Rattle.std.specs.Prelude.{◌≡◌}
use denote.RawPtr.{null_ptr}
use Rattle.tok_carets.specs.declared.line.LineColumn.{LineColumn}
use Rattle.tok_entries.specs.declared.cursor.Step.{Step}
use Rattle.tok_entries.specs.declared.entry.Entry.{Entry}
use Rattle.entry_outcomes.specs.declared.outcome.Message.{Message}
use Rattle.entry_outcomes.specs.declared.outcome.Outcome.{Outcome}
use Rattle.syn_tokens_c.specs.declared.flat.FlatArgument.{FlatArgument}
use Rattle.syn_tokens_c.specs.declared.value.LiteralValue.{LiteralValue}
use Rattle.syn_tokens_c.specs.declared.open.Opened.{Opened}
use Rattle.syn_tokens_c.specs.declared.read.Reading.{Reading}

-- an entry, each field another number
abbrev pub entry_sample : Entry
entry_sample =
    record {
      kind = 1;
      spacing = 2;
      delimiter = 3;
      start = 4;
      end = 5;
      text_start = 6;
      text_end = 7;
      distance = 8;
    }

-- what a read reports, each field another number
abbrev pub reading_sample : Reading
reading_sample = record { status = 9; rule = 10; at = 11; entries = 12; bytes = 13 }

-- the sample of a report, and two pointers that are null
abbrev pub opened_sample : Opened
opened_sample = record { reading = reading_sample; entries = null_ptr; bytes = null_ptr }

-- the outcome of a parse, each field another number
abbrev pub outcome_sample : Outcome
outcome_sample =
    record { status = 14; refusal = 15; entry = 16; values = 17; messages = 18; bytes = 19 }

-- a message of an error, each field another number
abbrev pub message_sample : Message
message_sample = record { start = 20; end = 21; text_start = 22; text_end = 23 }

-- an argument, each field another number
abbrev pub argument_sample : FlatArgument
argument_sample =
    record {
      kind = 24;
      name_start = 25;
      name_end = 26;
      value_start = 27;
      value_end = 28;
      inside = 29;
    }

-- the value of a literal, each field another number, but for the double, which is any
abbrev pub IsValueSample : LiteralValue → Type 0
IsValueSample v =
    (v.status ≡ 30) × (v.kind ≡ 31) × (v.number ≡ 32) × (v.suffix ≡ 33) × (v.bytes ≡ 34)

-- a step over entries, each field another number
abbrev pub step_sample : Step
step_sample = record { at = 35; last = 36; next = 37 }

-- a line and a column, two other numbers
abbrev pub place_sample : LineColumn
place_sample = record { line = 38; column = 39 }
