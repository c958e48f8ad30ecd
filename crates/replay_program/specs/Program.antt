-- What the program prints for an input, and its status.
use Rattle.std.specs.Prelude.{◌≡◌, ◌⊎◌, ⊤, ℕ, List, Option, Some, None, codes}
use Rattle.std.specs.Io.KnownBytes.{Keeps}
use Rattle.std.specs.Str.{IsUtf8, chars}
use Rattle.tok_core.specs.Forest.{Forest}
use Rattle.tok_core.specs.Lexical.Reading.{ReadsForest, IsRejected}
use Rattle.tok_lexical.specs.declared.rule.Mode.TheVariants.{Marked}
use Rattle.replay_program.specs.CommandText.{unreadable_line, commands_in}
use Rattle.syn_replay.specs.Commands.{Command}
use Rattle.replay_program.specs.Comparison.{Compares, Reports, reported, compared, reports_text}
use Rattle.replay_program.specs.Comparison.{reports_status}
use Rattle.replay_program.specs.Faults.{unreadable_text}
use Rattle.replay_program.specs.Input.{lines, parts_of}
use Rattle.replay_program.specs.Failures.{Reading, Writing}
use Rattle.replay_program.specs.Output.{GoesOut}
use Rattle.syn_replay.specs.ReportText.{as_line}
use Rattle.syn_replay.specs.Session.Walk.{walk}
use Rattle.replay_program.specs.declared.fault.Unreadable.{Unreadable}
use Rattle.replay_program.specs.declared.fault.Unreadable.TheVariants.{Utf8, Parts, Text, Right}
use Rattle.replay_program.specs.declared.fault.Unreadable.TheVariants as unreadable

-- the input is UTF-8 and holds these texts, the second of which may be missing, and these lines of
-- commands
abbrev pub HasParts : List ℕ → List ℕ → Option (List ℕ) → List (List ℕ) → Type 0
HasParts bytes text other lines = IsUtf8 bytes × (parts_of bytes ≡ Some (text, other, lines))

-- a marked text, which is source 0, reads as this forest
abbrev pub IsForest : List ℕ → Forest → Type 0
IsForest text forest = ReadsForest Marked 0 (chars text) forest

-- the second text reads as this forest, or there is none
abbrev pub IsOther : Option (List ℕ) → Option Forest → Type 0
IsOther None None = ⊤
IsOther (Some text) (Some forest) = IsForest text forest
IsOther text forest = ⊥

-- and its texts read as these forests
abbrev pub HasForests : List ℕ → Forest → Option Forest → List (List ℕ) → Type 0
HasForests bytes forest more lines =
    (text : List ℕ) × (other : Option (List ℕ)) × HasParts bytes text other lines
    × IsForest text forest × IsOther other more

-- the second text is rejected
abbrev pub IsUnreadableOther : Option (List ℕ) → Unreadable → Type 0
IsUnreadableOther (Some text) (Right error) = IsRejected Marked 0 (chars text) error
IsUnreadableOther text why = ⊥

-- the first thing that can't be read: the bytes, the parts, the text, the second text, a command
abbrev pub IsUnreadable : List ℕ → Unreadable → Type 0
IsUnreadable bytes Utf8 = ¬ (IsUtf8 bytes)
IsUnreadable bytes Parts = IsUtf8 bytes × (parts_of bytes ≡ None)
IsUnreadable bytes (Text error) =
    (text : List ℕ) × (other : Option (List ℕ)) × (lines : List (List ℕ))
    × HasParts bytes text other lines × IsRejected Marked 0 (chars text) error
IsUnreadable bytes (Right error) =
    (text : List ℕ) × (other : List ℕ) × (lines : List (List ℕ)) × (forest : Forest)
    × HasParts bytes text (Some other) lines × IsForest text forest
    × IsRejected Marked 0 (chars other) error
IsUnreadable bytes (unreadable.Command n) =
    (forest : Forest) × (more : Option Forest) × (lines : List (List ℕ))
    × HasForests bytes forest more lines × (unreadable_line lines ≡ Some n)

-- the reports on one forest, or on two, under these commands
abbrev pub AreReports : Forest → Option Forest → List Command → Reports → Type 0
AreReports forest None commands (reported r) = r ≡ walk forest commands
AreReports left (Some right) commands (compared c) = Compares left right commands c
AreReports left right commands o = ⊥

-- all is read, and these are its reports
abbrev pub HasReports : List ℕ → Reports → Type 0
HasReports bytes o =
    (forest : Forest) × (more : Option Forest) × (lines : List (List ℕ))
    × HasForests bytes forest more lines × (unreadable_line lines ≡ None)
    × AreReports forest more (commands_in lines) o

-- the reports on the input, with status 0 or 1, or one line with 2
abbrev pub Prints : List ℕ → List ℕ → ℕ → Type 0
Prints bytes printed status =
    ((o : Reports) × HasReports bytes o × (printed ≡ reports_text o) × (status ≡ reports_status o))
    ⊎
    ((why : Unreadable) × IsUnreadable bytes why × (printed ≡ as_line (unreadable_text why))
    × (status ≡ 2))

-- nothing else comes of the input
abbrev pub PrintsOnly : List ℕ → List ℕ → ℕ → Type 0
PrintsOnly bytes printed status =
    (other : List ℕ) (code : ℕ) → Prints bytes other code → (printed ≡ other) × (status ≡ code)

-- the lines of commands are read, and these are the reports on a forest under them
abbrev pub HasReportsFor : Forest → List ℕ → Reports → Type 0
HasReportsFor forest bytes o =
    IsUtf8 bytes × (unreadable_line (lines bytes) ≡ None)
    × AreReports forest None (commands_in (lines bytes)) o

-- the first thing in lines of commands that can't be read
abbrev pub IsUnreadableFor : List ℕ → Unreadable → Type 0
IsUnreadableFor bytes Utf8 = ¬ (IsUtf8 bytes)
IsUnreadableFor bytes (unreadable.Command n) =
    IsUtf8 bytes × (unreadable_line (lines bytes) ≡ Some n)
IsUnreadableFor bytes why = ⊥

-- the reports on a forest under lines of commands, with status 0 or 1, or one line with 2
abbrev pub PrintsFor : Forest → List ℕ → List ℕ → ℕ → Type 0
PrintsFor forest bytes printed status =
    ((o : Reports) × HasReportsFor forest bytes o × (printed ≡ reports_text o)
    × (status ≡ reports_status o))
    ⊎
    ((why : Unreadable) × IsUnreadableFor bytes why × (printed ≡ as_line (unreadable_text why))
    × (status ≡ 2))

-- of how the source was read, and how the sink was written to
module _ (read : Reading) (written : Writing) where
  -- an allocation failed, and one line says so with 3; or a read failed, and nothing went out
  abbrev pub Fails : List ℕ → ℕ → Option (List ℕ) → Option (List ℕ) → Type 0
  Fails bytes status old new =
      ((read.whole bytes ⊎ read.part) × GoesOut written (as_line (codes "memory")) 3 status old new)
      ⊎ ((status ≡ 2) × read.failed × Keeps old new)

  -- all was read, and what the program prints for these bytes went out; or it failed
  abbrev pub Serves : List ℕ → ℕ → Option (List ℕ) → Option (List ℕ) → Type 0
  Serves bytes status old new =
      ((printed : List ℕ) × (code : ℕ) × Prints bytes printed code × read.whole bytes
      × GoesOut written printed code status old new) ⊎ Fails bytes status old new

  -- all was read, and whatever the program prints for these bytes went out; or it failed
  abbrev pub ServesOnly : List ℕ → ℕ → Option (List ℕ) → Option (List ℕ) → Type 0
  ServesOnly bytes status old new =
      (printed : List ℕ) (code : ℕ) → Prints bytes printed code
      → (read.whole bytes × GoesOut written printed code status old new)
      ⊎ Fails bytes status old new
