-- The form of arguments: all that they are, but how the program stores a list of them.
use Rattle.std.specs.Prelude.{List, [], ◌∷◌}
use Rattle.tok_leaves.specs.declared.ident.Ident.{Ident}
use Rattle.tok_leaves.specs.declared.literal.Literal.{Literal}
use Rattle.tok_leaves.specs.declared.span.Span.{Span}
use Rattle.tok_leaves.specs.Spans.{whole_span}
use Rattle.syn_parse.specs.TokenNames.{Comma, Eq, Token}
use Rattle.syn_punctuated.specs.Lists.{values_of, separators_of}
use Rattle.syn_punctuated.specs.TakeLists as lists
use Rattle.arguments.specs.Values.{Arguments}
use Rattle.arguments.specs.declared.argument.Argument.{Argument}
use Rattle.arguments.specs.declared.argument.Value.{Value}
use Rattle.arguments.specs.declared.argument.Value.TheFolds.{fold-Argument, fold-Value}
use Rattle.arguments.specs.declared.argument.Value.TheOpen.{Argument-F, Value-F}

mutual
  -- a name; a name, `=` and a literal; or a name and, in parentheses of this span, arguments
  pub data Form : Type 0 where
    flag : Ident → Form
    assigned : Ident → Token Eq → Literal → Form
    with_list : Ident → Span → Forms → List (Token Comma) → Form

  -- no argument, or a first one and the others
  pub data Forms : Type 0 where
    none : Forms
    one_more : Form → Forms → Forms

-- a list of forms as its own type
abbrev pub forms : List Form → Forms
forms [] = none
forms (f ∷ fs) = one_more f (forms fs)

-- a name, and in parentheses of this span arguments
abbrev pub listed : Ident → Span → List Form × List (Token Comma) → Form
listed name span list = with_list name span (forms list.0) list.1

-- a value after a name, with the forms of the arguments within it in their place
abbrev pub value_level : Value-F (Ident → Form) Form → Ident → Form
value_level Value-F.Flag name = flag name
value_level (Value-F.Literal equals text) name = assigned name equals text
value_level (Value-F.List paren list) name =
    listed name (whole_span paren.span) (values_of list, separators_of list)

-- an argument, with the form of its value in its place
abbrev pub argument_level : Argument-F (Ident → Form) Form → Form
argument_level argument = argument.value argument.name

-- the form of a value after a name, and of an argument
abbrev pub value_form : Value → Ident → Form
value_form = fold-Value (Ident → Form) Form value_level argument_level

-- an argument as contracts see it
abbrev pub argument_form : Argument → Form
argument_form = fold-Argument (Ident → Form) Form value_level argument_level

-- the forms of arguments, and their commas
abbrev pub ListForm : Type 0
ListForm = List Form × List (Token Comma)

-- arguments as contracts see them
abbrev pub list_form : Arguments → ListForm
list_form = lists.list_form argument_form (λ comma. comma)
