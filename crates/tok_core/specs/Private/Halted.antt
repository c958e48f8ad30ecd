-- Why a piece is not taken in, without its place.
use Rattle.std.specs.Prelude.{ℕ}
use Rattle.tok_lexical.specs.declared.lex_error_kind.LexErrorKind.{LexErrorKind}
use Rattle.tok_core.specs.declared.lexer.error.Halt.{Halt}
use Rattle.tok_core.specs.declared.lexer.error.Halt.TheVariants as halt
use Rattle.tok_core.specs.declared.lexer.error.LexFault.{LexFault}
use Rattle.tok_core.specs.declared.lexer.error.LexFault.TheVariants as fault

-- what isn't an allocation failure has a kind of which this holds
abbrev pub OnHalted : Halt → (LexErrorKind → Type 0) → Type 0
OnHalted (halt.Refused why) P = P why
OnHalted halt.Memory P = Unit {0}

-- the fault of a piece at this byte of this source
abbrev pub fault_of : ℕ → ℕ → Halt → LexFault
fault_of source at (halt.Refused why) =
    fault.Refused (record { kind = why; source = source; at = at })
fault_of source at halt.Memory = fault.Memory
