-- What the reader returns.
use Rattle.std.specs.Prelude.{◌≡◌, List, ◌⊎◌, Result, Ok, Err}
use Rattle.tok_buffer.specs.Messages.{first_text}
use Rattle.tok_buffer.specs.declared.error.Message.{Message}
use Rattle.tok_leaves.specs.Spans.{call_site}
use Rattle.tok_core.specs.Erase.{erase}
use Rattle.tok_core.specs.Forest.{Forest}
use Rattle.syn_parse.specs.Faults.{IsMemory}
use Rattle.syn_parse.specs.Positions.{Missing}
use Rattle.syn_parse.specs.Takes.{Says}
use Rattle.syn_parse.specs.declared.fault.Fault.{Fault}
use Rattle.syn_parse.specs.declared.fault.Fault.TheVariants as fault
use Rattle.arguments.specs.Grammar.{AreArguments, AreNoArguments}
use Rattle.arguments.specs.Reading.{FindsMissing}
use Rattle.arguments.specs.Same.{SameArguments}
use Rattle.arguments.specs.Values.{Arguments}

-- the arguments that these trees are, or an error if they are none; or an allocation failure
abbrev pub Parses : Forest → Result Arguments Fault → Type 0
Parses trees (Ok arguments) = AreArguments trees arguments
Parses trees (Err f) = IsMemory f ⊎ AreNoArguments trees

-- an error is one message: its text and span are those of the first part that is missing, in order
abbrev pub IsWhy : Forest → List Message → Type 0
IsWhy tokens error =
    (m : Missing) × FindsMissing (erase tokens) m × Says tokens call_site m (fault.Refused error)

-- an error of a parse is one message
abbrev pub SaysWhy : Forest → Result Arguments Fault → Type 0
SaysWhy tokens (Err (fault.Refused error)) = IsWhy tokens error
SaysWhy tokens result = Unit {0}

-- the arguments that these tokens are, or an error that says why they are none
abbrev pub ParsesTo : Forest → Result Arguments (List Message) → Type 0
ParsesTo tokens (Ok arguments) = AreArguments (erase tokens) arguments
ParsesTo tokens (Err error) = AreNoArguments (erase tokens) × IsWhy tokens error

-- equal arguments, spans included, or errors with equal texts
abbrev pub Agree : Result Arguments (List Message) → Result Arguments (List Message) → Type 0
Agree (Ok left) (Ok right) = SameArguments left right
Agree (Err left) (Err right) = first_text left ≡ first_text right
Agree left right = ⊥

-- a result with no allocation failure, as one that could have been one
abbrev pub with_fault : Result Arguments (List Message) → Result Arguments Fault
with_fault (Ok arguments) = Ok arguments
with_fault (Err error) = Err (fault.Refused error)
