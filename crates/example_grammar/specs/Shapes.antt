-- The fields of a struct, with names or without.
use Rattle.std.specs.Prelude.{List, None, Option, Some}
use Rattle.tok_lexical.specs.declared.delimiter.Delimiter.TheVariants.{Brace, Parenthesis}
use Rattle.tok_leaves.specs.declared.ident.Ident.{Ident}
use Rattle.tok_leaves.specs.declared.span.Span.{Span}
use Rattle.tok_leaves.specs.Spans.{whole_span}
use Rattle.syn_parse.specs.Lighter.{lowering}
use Rattle.syn_parse.specs.Takes.{Taking, ◌>>=◌, gives, take_group, where_ahead}
use Rattle.syn_parse.specs.Takings.{Lightens, Lowers, Takings, lighter, lower, taken_filled, told}
use Rattle.syn_parse.specs.TokenNames.{Colon, Comma, Token, take}
use Rattle.syn_parse.specs.Tokens.{sees_group, take_ident}
use Rattle.syn_punctuated.specs.TakeLists.{list_form, take_terminated}
use Rattle.syn_punctuated.specs.declared.punctuated.Punctuated.{Punctuated}
use Rattle.example_grammar.specs.NamedTypes.{Form, lightens_type, take_type, type_form}
use Rattle.example_grammar.specs.declared.shape.Field.{Field}
use Rattle.example_grammar.specs.declared.shape.NamedFields.{NamedFields}
use Rattle.example_grammar.specs.declared.shape.Shape.{Shape}
use Rattle.example_grammar.specs.declared.shape.Shape.TheVariants as made
use Rattle.example_grammar.specs.declared.shape.UnnamedFields.{UnnamedFields}

-- the name if there is one, and the type
abbrev pub FieldForm : Type 0
FieldForm = Option Ident × Form

-- a field as contracts see it
abbrev pub field_form : Field → FieldForm
field_form f = (f.name, type_form f.kind)

-- `name: type`
abbrev pub take_named : Taking FieldForm
take_named = do
  name ← take_ident
  _ ← take Colon
  kind ← take_type
  gives (Some name, kind)

-- a type alone
abbrev pub take_unnamed : Taking FieldForm
take_unnamed = do
  kind ← take_type
  gives (None, kind)

-- less is ahead after a field with a name
pub lowers_named : Lowers take_named
lowers_named = search (lowering, lightens_type) depth 20

-- a field without a name adds nothing to what is ahead
pub lightens_unnamed : Lightens take_unnamed
lightens_unnamed = search (lowering, lightens_type) depth 20

-- the parse of a field with a name
abbrev pub named_field : Takings Field
named_field = told field_form take_named (lower lowers_named)

-- the parse of a field without a name
abbrev pub unnamed_field : Takings Field
unnamed_field = told field_form take_unnamed (lighter lightens_unnamed)

-- fields and the commas between them
abbrev pub ListForm : Type 0
ListForm = List FieldForm × List (Token Comma)

-- the parse of a list of such fields, if no invisible group is empty
abbrev pub fields_of : Taking FieldForm → Takings (Punctuated Field (Token Comma))
fields_of field = taken_filled (list_form field_form (λ p. p)) (take_terminated field (take Comma))

-- the span of the braces, and the fields
abbrev pub named_form : NamedFields → Span × ListForm
named_form f = (whole_span f.brace.span, list_form field_form (λ p. p) f.list)

-- `{ name: type, .. }`
abbrev pub take_named_fields : Taking (Span × ListForm)
take_named_fields = do
  list ← take_group Brace (take_terminated take_named (take Comma))
  gives (list.0.join, list.1)

-- the span of the parentheses, and the fields
abbrev pub unnamed_form : UnnamedFields → Span × ListForm
unnamed_form f = (whole_span f.paren.span, list_form field_form (λ p. p) f.list)

-- `(type, ..)`
abbrev pub take_unnamed_fields : Taking (Span × ListForm)
take_unnamed_fields = do
  list ← take_group Parenthesis (take_terminated take_unnamed (take Comma))
  gives (list.0.join, list.1)

-- fields with names, fields without names, or none
pub data ShapeForm : Type 0 where
  named : Span × ListForm → ShapeForm
  unnamed : Span × ListForm → ShapeForm
  unit : ShapeForm

-- a shape as contracts see it
abbrev pub shape_form : Shape → ShapeForm
shape_form (made.Named f) = named (named_form f)
shape_form (made.Unnamed f) = unnamed (unnamed_form f)
shape_form made.Unit = unit

-- fields in braces or in parentheses, or none
abbrev pub take_shape : Taking ShapeForm
take_shape =
    where_ahead (sees_group Brace) (do
      fields ← take_named_fields
      gives (named fields)) (where_ahead (sees_group Parenthesis) (do
        fields ← take_unnamed_fields
        gives (unnamed fields)) (gives unit))
