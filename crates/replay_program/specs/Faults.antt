-- Why the program has no report for an input.
use Rattle.std.specs.Prelude.{◌≡◌, ℕ, true, List, ◌++◌, codes}
use Rattle.std.specs.Fmt.{decimal}
use Rattle.tok_core.specs.Lexical.Errors.{error_number, error_byte}
use Rattle.tok_core.specs.declared.lexer.error.LexFault.{LexFault}
use Rattle.tok_core.specs.declared.lexer.error.LexFault.TheVariants as lexical
use Rattle.replay_program.specs.CommandText.{is_unreadable}
use Rattle.replay_program.specs.declared.command_text.LineFault.{LineFault}
use Rattle.replay_program.specs.declared.command_text.LineFault.TheVariants as line_faults
use Rattle.replay_program.specs.declared.fault.Fault.{Fault}
use Rattle.replay_program.specs.declared.fault.Fault.TheVariants as faults
use Rattle.replay_program.specs.declared.fault.Unreadable.{Unreadable}
use Rattle.replay_program.specs.declared.fault.Unreadable.TheVariants.{Utf8, Parts, Text, Right}
use Rattle.replay_program.specs.declared.fault.Unreadable.TheVariants.{Command}

-- the printed line
abbrev pub unreadable_text : Unreadable → List ℕ
unreadable_text Utf8 = codes "unreadable: utf8"
unreadable_text Parts = codes "unreadable: parts"
unreadable_text (Text error) =
    codes "unreadable: L"
    ++ (decimal (error_number error) ++ (codes " at " ++ decimal (error_byte error)))
unreadable_text (Right error) =
    codes "unreadable: right L"
    ++ (decimal (error_number error) ++ (codes " at " ++ decimal (error_byte error)))
unreadable_text (Command n) = codes "unreadable: command " ++ decimal n

-- the program's fault for that of a text
abbrev pub fault_of : LexFault → Fault
fault_of (lexical.Refused error) = faults.Unreadable (Text error)
fault_of lexical.Memory = faults.Memory

-- the program's fault for that of the second of two texts
abbrev pub right_fault_of : LexFault → Fault
right_fault_of (lexical.Refused error) = faults.Unreadable (Right error)
right_fault_of lexical.Memory = faults.Memory

-- a fault that isn't an allocation failure says why, of which this holds
abbrev pub OnUnreadable : Fault → (Unreadable → Type 0) → Type 0
OnUnreadable (faults.Unreadable why) P = P why
OnUnreadable faults.Memory P = Unit {0}

-- a line's fault: the line is no command, or nothing is said of a failed allocation
abbrev pub IsUnreadableLine : LineFault → List ℕ → Type 0
IsUnreadableLine line_faults.Unreadable line = is_unreadable line ≡ true
IsUnreadableLine line_faults.Memory line = Unit {0}
