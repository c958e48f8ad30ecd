-- Structs, enums and unions, by the visible trees ahead: "Structs", "Enumerations" and "Unions" in
-- the Rust Reference.
use Rattle.std.specs.Prelude.{List, Option, None, Some, option_map, codes}
use Rattle.tok_lexical.specs.declared.delimiter.Delimiter.TheVariants.{Brace, Parenthesis}
use Rattle.tok_leaves.specs.declared.ident.Ident.{Ident}
use Rattle.tok_leaves.specs.declared.span.DelimSpan.{DelimSpan}
use Rattle.syn_parse.specs.Optional.{take_optional}
use Rattle.syn_parse.specs.Takes.{Taking, ◌>>=◌, gives, refuses, take_group, where_ahead}
use Rattle.syn_parse.specs.TokenNames.{Comma, Enum, Semi, Struct, Token, Union, Where, sees, take}
use Rattle.syn_parse.specs.Tokens.{sees_group, take_ident}
use Rattle.syn_punctuated.specs.TakeLists.{list_form, take_terminated}
use Rattle.syn_derive.specs.Attributes.{AttributeForm, attributes_form, take_attributes}
use Rattle.syn_derive.specs.Fields.{FieldList, FieldsForm, VariantForm, fields_form}
use Rattle.syn_derive.specs.Fields.{named, named_fields_form, take_named_fields}
use Rattle.syn_derive.specs.Fields.{take_unnamed_fields, take_variant, unit, unnamed, variant_form}
use Rattle.syn_derive.specs.Generics.{ParamsForm, WhereForm, params_form, take_params}
use Rattle.syn_derive.specs.Generics.{take_where_clause, where_form}
use Rattle.syn_derive.specs.Visibilities.{VisibilityForm, take_visibility, visibility_form}
use Rattle.syn_derive.specs.declared.derive.Body.{Body}
use Rattle.syn_derive.specs.declared.derive.Data.{Data}
use Rattle.syn_derive.specs.declared.derive.Data.TheVariants as kind
use Rattle.syn_derive.specs.declared.derive.DeriveInput.{DeriveInput}
use Rattle.syn_derive.specs.declared.derive.Item.{Item}
use Rattle.syn_derive.specs.declared.generics.Generics.{Generics}

-- a `where` clause, if there is one
abbrev pub take_clause : Taking (Option WhereForm)
take_clause = take_optional (sees Where) take_where_clause

-- what comes after the parameters of a struct: fields, a `where` clause and a `;`
abbrev pub BodyForm : Type 0
BodyForm = Option WhereForm × FieldsForm × Option (Token Semi)

-- what comes after a struct's parameters, as contracts see it
abbrev pub body_form : Body → BodyForm
body_form b = (option_map where_form b.where_clause, fields_form b.fields, b.semi_token)

-- fields in parentheses, a `where` clause and `;`
unfoldable pub take_tuple_body : Taking BodyForm
take_tuple_body = do
  fields ← take_unnamed_fields
  clause ← take_clause
  semi ← take Semi
  gives (clause, unnamed fields, Some semi)

-- a `where` clause, and fields in braces or `;`
unfoldable pub take_other_body : Taking BodyForm
take_other_body = do
  clause ← take_clause
  where_ahead (sees_group Brace) (do
    fields ← take_named_fields
    gives (clause, named fields, None)) (do
      semi ← take Semi
      gives (clause, unit, Some semi))

-- takes what comes after a struct's parameters
unfoldable pub take_body : Taking BodyForm
take_body = where_ahead (sees_group Parenthesis) take_tuple_body take_other_body

-- a struct's fields and `;`, an enum's variants, or a union's fields
pub data DataForm : Type 0 where
  of_struct : Token Struct → FieldsForm → Option (Token Semi) → DataForm
  of_enum : Token Enum → DelimSpan → List VariantForm × List (Token Comma) → DataForm
  of_union : Token Union → DelimSpan × FieldList → DataForm

-- a struct's fields, an enum's variants or a union's fields, as contracts see them
abbrev pub data_form : Data → DataForm
data_form (kind.Struct d) = of_struct d.struct_token (fields_form d.fields) d.semi_token
data_form (kind.Enum d) =
    of_enum d.enum_token d.brace_token.span (list_form variant_form (λ p. p) d.variants)
data_form (kind.Union d) = of_union d.union_token (named_fields_form d.fields)

-- a name, parameters, a `where` clause and what the item consists of
abbrev pub ItemForm : Type 0
ItemForm = Ident × ParamsForm × Option WhereForm × DataForm

-- the form of an item with these parts
abbrev pub form_of_parts : Ident → Generics → Data → ItemForm
form_of_parts ident generics body =
    (ident, params_form generics, option_map where_form generics.where_clause, data_form body)

-- an item as contracts see it
abbrev pub item_form : Item → ItemForm
item_form i = form_of_parts i.ident i.generics i.data

-- takes `struct` and what comes after it
unfoldable pub take_struct_item : Taking ItemForm
take_struct_item = do
  word ← take Struct
  ident ← take_ident
  params ← take_params
  body ← take_body
  gives (ident, params, body.0, of_struct word body.1 body.2)

-- takes `enum` and what comes after it
unfoldable pub take_enum_item : Taking ItemForm
take_enum_item = do
  word ← take Enum
  ident ← take_ident
  params ← take_params
  clause ← take_clause
  variants ← take_group Brace (take_terminated take_variant (take Comma))
  gives (ident, params, clause, of_enum word variants.0 variants.1)

-- takes `union` and what comes after it
unfoldable pub take_union_item : Taking ItemForm
take_union_item = do
  word ← take Union
  ident ← take_ident
  params ← take_params
  clause ← take_clause
  fields ← take_named_fields
  gives (ident, params, clause, of_union word fields)

-- takes a struct, an enum or a union
unfoldable pub take_item : Taking ItemForm
take_item =
    where_ahead (sees Struct) take_struct_item (where_ahead (sees Enum) take_enum_item
    (where_ahead (sees Union) take_union_item
    (refuses (codes "expected one of: `struct`, `enum`, `union`"))))

-- an item after attributes and a visibility
abbrev pub InputForm : Type 0
InputForm = List AttributeForm × VisibilityForm × ItemForm

-- a derive input as contracts see it
abbrev pub input_form : DeriveInput → InputForm
input_form i =
    (attributes_form i.attrs, visibility_form i.vis, form_of_parts i.ident i.generics i.data)

-- takes attributes, a visibility and an item
abbrev pub take_input : Taking InputForm
take_input = do
  attrs ← take_attributes
  vis ← take_visibility
  item ← take_item
  gives (attrs, vis, item)
