-- Values that hold values: a name, a literal, or values in brackets.
use Rattle.std.specs.Prelude.{◌≡◌, List, [], ◌∷◌}
use Rattle.tok_lexical.specs.declared.delimiter.Delimiter.TheVariants.{Bracket}
use Rattle.tok_leaves.specs.declared.ident.Ident.{Ident}
use Rattle.tok_leaves.specs.declared.literal.Literal.{Literal}
use Rattle.tok_leaves.specs.declared.span.Span.{Span}
use Rattle.tok_leaves.specs.Spans.{whole_span}
use Rattle.syn_parse.specs.Nested.{Descends, lightens_nested, nested_again, take_nested}
use Rattle.syn_parse.specs.Takes.{Taking, ◌>>=◌, gives, take_group, where_ahead}
use Rattle.syn_parse.specs.Takings.{Lightens, Takings, lighter, taken_filled, told_filled}
use Rattle.syn_parse.specs.TokenNames.{Comma, Token, take}
use Rattle.syn_parse.specs.Tokens.{sees_group, sees_ident, take_ident, take_literal}
use Rattle.syn_parse.specs.TreesAhead.{Ahead}
use Rattle.syn_punctuated.specs.Lists.{values_of, separators_of}
use Rattle.syn_punctuated.specs.NestedLists.{descending_lists}
use Rattle.syn_punctuated.specs.TakeLists.{list_form, take_terminated}
use Rattle.syn_punctuated.specs.declared.punctuated.Punctuated.{Punctuated}
use Rattle.example_callers.specs.declared.value.Value.{Value}
use Rattle.example_callers.specs.declared.value.Value.TheFolds.{fold-Value}
use Rattle.example_callers.specs.declared.value.Value.TheOpen.{Value-F}

mutual
  -- a value, without the storage of its lists
  pub data Form : Type 0 where
    name : Ident → Form
    text : Literal → Form
    list : Span → Forms → List (Token Comma) → Form

  -- no value, or a first one and the others
  pub data Forms : Type 0 where
    none : Forms
    one_more : Form → Forms → Forms

-- a list of forms as its own type
abbrev pub forms : List Form → Forms
forms [] = none
forms (f ∷ fs) = one_more f (forms fs)

-- values within brackets of this span
abbrev pub listed : Span → List Form × List (Token Comma) → Form
listed span values = list span (forms values.0) values.1

-- a value, with the forms of those that it holds in their place
abbrev pub one_level : Value-F Form → Form
one_level (Value-F.Name ident) = name ident
one_level (Value-F.Text literal) = text literal
one_level (Value-F.List bracket values) =
    listed (whole_span bracket.span) (values_of values, separators_of values)

-- a value as contracts see it
abbrev pub value_form : Value → Form
value_form = fold-Value Form one_level

-- one value, by how those within it are taken
abbrev pub value_step : Taking Form → Taking Form
value_step value =
    where_ahead (sees_group Bracket) (do
      values ← take_group Bracket (take_terminated value (take Comma))
      gives (listed values.0.join values.1)) (where_ahead sees_ident (do
        ident ← take_ident
        gives (name ident)) (do
          literal ← take_literal
          gives (text literal)))

-- each level takes less than the one around it
pub value_descends : Descends 0 value_step
value_descends = search descending_lists depth 40

-- takes a value, with values within it
abbrev pub take_value : Taking Form
take_value = take_nested value_step

-- a value is one level around values
pub value_again : (a : Ahead) → take_value a ≡ value_step take_value a
value_again = nested_again value_step value_descends

-- a value adds nothing to what is ahead
pub lightens_value : Lightens take_value
lightens_value = lightens_nested value_step value_descends

-- the parse of a value, if no invisible group is empty
abbrev pub values : Takings Value
values = told_filled value_form take_value (lighter lightens_value)

-- values with commas between them
abbrev pub lists : Takings (Punctuated Value (Token Comma))
lists = taken_filled (list_form value_form (λ p. p)) (take_terminated take_value (take Comma))
