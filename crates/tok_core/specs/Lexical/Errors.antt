-- Errors: their numbers and words, and where they are.
use Rattle.std.specs.Prelude.{◌≡◌, ◌⊎◌, ℕ, ◌+◌, List, ◌++◌, Option, Some, None, codes}
use Rattle.tok_lexical.specs.Errors.{kind_message, kind_number, kind_words}
use Rattle.tok_lexical.specs.QuotedFaults.{IsQuotedFault, quoted_fault_words}
use Rattle.tok_lexical.specs.Widths.{bytes}
use Rattle.tok_lexical.specs.declared.lex_error_kind.LexErrorKind.{LexErrorKind}
use Rattle.tok_lexical.specs.declared.lex_error_kind.LexErrorKind.TheVariants.{MalformedQuoted}
use Rattle.tok_lexical.specs.declared.quoted.QuotedFault.{QuotedFault}
use Rattle.tok_leaves.specs.Spans.{source}
use Rattle.tok_leaves.specs.declared.span.Span.{Span}
use Rattle.tok_core.specs.declared.lexer.error.LexError.{LexError}
use Rattle.tok_core.specs.declared.lexer.error.LexFault.{LexFault}
use Rattle.tok_core.specs.declared.lexer.error.LexFault.TheVariants.{Refused, Memory}

-- the number of the rule, from 1 to 15
abbrev pub error_number : LexError → ℕ
error_number error = kind_number error.kind

-- the message of an error, which tells its kind and not its byte
abbrev pub error_words : LexError → List ℕ
error_words error = kind_words error.kind

-- the byte at which what can't be read begins
abbrev pub error_byte : LexError → ℕ
error_byte error = error.at

-- the empty range at that byte of that source
abbrev pub error_span : LexError → Span
error_span error = source error.source error.at error.at

-- what is wrong with the quoted literal at this byte of a text; nothing if no character begins
-- there
abbrev pub IsQuotedFaultAt : (text : List ℕ) → (at : ℕ) → Option (QuotedFault × ℕ) → Type 0
IsQuotedFaultAt text at found =
    ((front : List ℕ) × (rest : List ℕ) × (text ≡ front ++ rest) × (bytes front ≡ at)
    × IsQuotedFault rest found)
    ⊎ (((front rest : List ℕ) → text ≡ front ++ rest → bytes front ≡ at → ⊥) × (found ≡ None))

-- what is wrong with the quoted literal that is rejected; nothing if the error is of another kind
abbrev pub IsFaultOfKindAt : LexErrorKind → (text : List ℕ) → (at : ℕ)
    → Option (QuotedFault × ℕ) → Type 0
IsFaultOfKindAt MalformedQuoted text at found = IsQuotedFaultAt text at found
IsFaultOfKindAt kind text at found = found ≡ None

-- what is wrong with the quoted literal of an error, and how many bytes after its start
abbrev pub IsFaultOfError : (text : List ℕ) → LexError → Option (QuotedFault × ℕ) → Type 0
IsFaultOfError text error found = IsFaultOfKindAt error.kind text error.at found

-- where an error is shown to readers, and what is said: of a malformed quoted literal its fault
abbrev pub explained : LexError → Option (QuotedFault × ℕ) → Span × List ℕ
explained error (Some (fault, after)) = (
  source error.source (error.at + after) (error.at + after),
  quoted_fault_words fault,
)
explained error None = (error_span error, kind_message error.kind)

-- the span and the message that explain an error to readers of the text
abbrev pub Explains : (text : List ℕ) → LexError → Span × List ℕ → Type 0
Explains text error shown =
    (found : Option (QuotedFault × ℕ)) × IsFaultOfError text error found
    × (shown ≡ explained error found)

-- the message of an error or of an allocation failure
abbrev pub lex_fault_words : LexFault → List ℕ
lex_fault_words (Refused error) = error_words error
lex_fault_words Memory = codes "out of memory"

-- a fault that isn't an allocation failure has an error of which this holds
abbrev pub OnRefused : LexFault → (LexError → Type 0) → Type 0
OnRefused (Refused error) P = P error
OnRefused Memory P = Unit {0}
