-- What the reader returns is what the grammar says.
use Rattle.std.proofs.Common.{arith, ◌≡◌, true, List, Ok, Err, inl, inr}
use Rattle.std.specs.Prelude.{IfOk, Result}
use Rattle.tok_leaves.specs.Spans.{call_site}
use Rattle.tok_core.specs.Erase.{erase}
use Rattle.tok_core.specs.Filled.{filled}
use Rattle.tok_core.specs.Forest.{Forest}
use Rattle.tok_buffer.specs.declared.error.Message.{Message}
use Rattle.syn_parse.proofs.Shapes.{found_first}
use Rattle.syn_parse.specs.Positions.{Missing}
use Rattle.syn_parse.specs.Takes.{IsAll, Outcome, TakesAll, missing}
use Rattle.syn_parse.specs.TreesAhead.{all_taken}
use Rattle.syn_parse.specs.declared.fault.Fault.{Fault}
use Rattle.syn_parse.specs.declared.fault.Fault.TheVariants.{Memory, Refused}
use Rattle.arguments.specs.Forms.{ListForm, list_form}
use Rattle.arguments.specs.Grammar.{AreArguments}
use Rattle.arguments.specs.Reading.{take_arguments}
use Rattle.arguments.specs.Results.{Agree, Parses, ParsesTo, SaysWhy, with_fault}
use Rattle.arguments.specs.Same.{SameArguments}
use Rattle.arguments.specs.Values.{Arguments}
use Rattle.arguments.proofs.Grammar.{arguments_taken, sound}

abbrev pub Taken : Forest → Result Arguments Fault → Type 0
Taken f = TakesAll list_form take_arguments f call_site

pub parses : (f : Forest) (r : Result Arguments Fault) → Taken f r → Parses (erase f) r
parses f (Ok arguments) h = (sound.taken (erase f) all_taken (list_form arguments) h).1
parses f (Err (Refused e)) h = inr
    (λ arguments l. h.0.0 (list_form arguments) (arguments_taken l))
parses f (Err (Memory e)) h = inl tt

-- what is returned, of any forest
abbrev pub IsTaken : Forest → Arguments → Type 0
IsTaken f arguments = IsAll take_arguments f (list_form arguments)

pub value_is : (f : Forest) (r : Result Arguments Fault) → IfOk r (IsTaken f)
    → IfOk r (AreArguments (erase f))
value_is f r h = grind (arith, sound.taken)

pub kept_is : (f : Forest) (r : Result Arguments (List Message)) → IfOk (with_fault r) (IsTaken f)
    → IfOk r (AreArguments (erase f))
kept_is f r h = grind (arith, sound.taken)

pub says : (f : Forest) (r : Result Arguments Fault) → filled f ≡ true → Taken f r → SaysWhy f r
says f r i h = grind (arith, sound.taken)

pub parses_to : (f : Forest) (r : Result Arguments (List Message)) → filled f ≡ true
    → Taken f (with_fault r) → ParsesTo f r
parses_to f r i h = grind (arith, parses, arguments_taken, says)

-- the grammar has one list for the same trees
pub one_list : (f : Forest) (left right : Arguments) → AreArguments f left → AreArguments f right
    → SameArguments left right
one_list f left right h k = grind (arith, found_first, arguments_taken)

same_lack : (o : Outcome ListForm) (left right : Missing) → o ≡ missing left → o ≡ missing right
    → left ≡ right
same_lack o left right h k = cc

pub agree : (f g : Forest) → erase f ≡ erase g → filled f ≡ true → filled g ≡ true
    → (x y : Result Arguments (List Message)) → Taken f (with_fault x) → Taken g (with_fault y)
    → Agree x y
agree f g e i j x y h k = grind (arith, one_list, parses, says, same_lack)
