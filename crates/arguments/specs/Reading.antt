-- How arguments are read.
use Rattle.std.specs.Prelude.{◌≡◌, IfOk, Ok}
use Rattle.tok_lexical.specs.declared.delimiter.Delimiter.TheVariants.{Parenthesis}
use Rattle.tok_leaves.specs.declared.ident.Ident.{Ident}
use Rattle.tok_core.specs.Forest.{Forest}
use Rattle.syn_parse.specs.Lighter.{lowering}
use Rattle.syn_parse.specs.Nested.{Descends, lowers_nested, nested_again, take_nested}
use Rattle.syn_parse.specs.Positions.{Missing}
use Rattle.syn_parse.specs.Reads.{Call}
use Rattle.syn_parse.specs.Takes.{Taking, TakesAs, ◌>>=◌, gives, missing, take_group, where_ahead}
use Rattle.syn_parse.specs.Takings.{Lowers, Takings, lower, taken_filled, told_filled}
use Rattle.syn_parse.specs.TokenNames.{Comma, Eq, sees, take}
use Rattle.syn_parse.specs.Tokens.{sees_group, take_ident, take_literal}
use Rattle.syn_parse.specs.TreesAhead.{Ahead, only_trees}
use Rattle.syn_punctuated.specs.NestedLists.{descending_lists}
use Rattle.syn_punctuated.specs.TakeLists.{take_terminated}
use Rattle.arguments.specs.Forms.{Form, ListForm, argument_form, assigned, flag, list_form}
use Rattle.arguments.specs.Forms.{listed, value_form}
use Rattle.arguments.specs.Values.{Arguments}
use Rattle.arguments.specs.declared.argument.Argument.{Argument}
use Rattle.arguments.specs.declared.argument.Value.{Value}

-- the value after a name: `=` and a literal; or parentheses around a list; or nothing
abbrev pub take_value : Taking ListForm → Ident → Taking Form
take_value list name =
    where_ahead (sees Eq) (do
      equals ← take Eq
      text ← take_literal
      gives (assigned name equals text)) (where_ahead (sees_group Parenthesis) (do
        inner ← take_group Parenthesis list
        gives (listed name inner.0.join inner.1)) (gives (flag name)))

-- one argument, by how those within it are taken
abbrev pub argument_step : Taking Form → Taking Form
argument_step argument = do
  name ← take_ident
  take_value (take_terminated argument (take Comma)) name

-- each level takes less than the one around it
pub argument_descends : Descends 0 argument_step
argument_descends = search descending_lists depth 40

-- takes an argument
abbrev pub take_argument : Taking Form
take_argument = take_nested argument_step

-- an argument takes something
pub lowers_argument : Lowers take_argument
lowers_argument =
    lowers_nested argument_step argument_descends (λ m light. search lowering depth 40)

-- an argument is a step around arguments
pub argument_again : (a : Ahead) → take_argument a ≡ argument_step take_argument a
argument_again = nested_again argument_step argument_descends

-- arguments with commas between them; there may be one after the last
abbrev pub take_arguments : Taking ListForm
take_arguments = take_terminated take_argument (take Comma)

-- what parsers of these state
abbrev pub value_after : Ident → Takings Value
value_after name = taken_filled (λ value. value_form value name) (take_value take_arguments name)

-- what is stated of one argument
abbrev pub argument : Takings Argument
argument = told_filled argument_form take_argument (lower lowers_argument)

-- what is stated of arguments up to the end
abbrev pub arguments : Takings Arguments
arguments = taken_filled list_form take_arguments

-- a call that returns a value has taken it, seen in a form; nothing is said of an error
abbrev pub TakesIfOk : {T A : Type 0} → (T → A) → Taking A → Call T
TakesIfOk form take s r t = IfOk r (λ v. TakesAs form take s (Ok v) t)

-- reading these trees finds this missing
abbrev pub FindsMissing : Forest → Missing → Type 0
FindsMissing trees m = take_arguments (only_trees trees) ≡ missing m
