-- Fields and variants, by the visible trees ahead: "Structs" and "Enumerations" in the Rust
-- Reference.
use Rattle.std.specs.Prelude.{List, [], Option, None, Some, option_map}
use Rattle.tok_lexical.specs.declared.delimiter.Delimiter.TheVariants.{Brace, Parenthesis}
use Rattle.tok_leaves.specs.declared.ident.Ident.{Ident}
use Rattle.tok_leaves.specs.declared.span.DelimSpan.{DelimSpan}
use Rattle.tok_core.specs.Erase.{erase}
use Rattle.tok_core.specs.Forest.{Forest}
use Rattle.syn_parse.specs.After.{take_after}
use Rattle.syn_parse.specs.Lighter.{lightens_lower}
use Rattle.syn_parse.specs.Takes.{Taking, ◌>>=◌, gives, take_group, where_ahead}
use Rattle.syn_parse.specs.Takings.{Lightens, Lowers, Takings, lighter, taken_filled, told_filled}
use Rattle.syn_parse.specs.TokenNames.{Colon, Comma, Eq, Token, sees, take}
use Rattle.syn_parse.specs.Tokens.{sees_group, take_ident}
use Rattle.syn_punctuated.specs.Lists.{values_of}
use Rattle.syn_punctuated.specs.TakeLists.{list_form, take_terminated}
use Rattle.syn_punctuated.specs.Weighing.{weighing_lists}
use Rattle.syn_punctuated.specs.declared.punctuated.Punctuated.{Punctuated}
use Rattle.syn_derive.specs.Attributes.{AttributeForm, attributes_form, lowers_attribute}
use Rattle.syn_derive.specs.Attributes.{take_attributes}
use Rattle.syn_derive.specs.Runs.{lightens_expr, lightens_type, take_expr, take_type}
use Rattle.syn_derive.specs.Visibilities.{VisibilityForm, lightens_visibility, take_visibility}
use Rattle.syn_derive.specs.Visibilities.{visibility_form}
use Rattle.syn_derive.specs.declared.data.Field.{Field}
use Rattle.syn_derive.specs.declared.data.Fields.{Fields}
use Rattle.syn_derive.specs.declared.data.Fields.TheVariants as fields
use Rattle.syn_derive.specs.declared.data.FieldsNamed.{FieldsNamed}
use Rattle.syn_derive.specs.declared.data.FieldsUnnamed.{FieldsUnnamed}
use Rattle.syn_derive.specs.declared.data.Variant.{Variant}

-- a field, with or without a name
abbrev pub FieldForm : Type 0
FieldForm =
    List AttributeForm × VisibilityForm × Option Ident × Option (Token Colon) × Forest

-- a field as contracts see it, its type without invisible groups
abbrev pub field_form : Field → FieldForm
field_form f =
    (attributes_form f.attrs, visibility_form f.vis, f.ident, f.colon_token, erase f.ty.tokens)

-- the fields in braces or in parentheses, in order, or none
abbrev pub each_field : Fields → List Field
each_field (fields.Named f) = values_of f.named
each_field (fields.Unnamed f) = values_of f.unnamed
each_field fields.Unit = []

-- attributes, a visibility, a name, `:` and a type
unfoldable pub take_named_field : Taking FieldForm
take_named_field = do
  attrs ← take_attributes
  vis ← take_visibility
  ident ← take_ident
  colon ← take Colon
  ty ← take_type
  gives (attrs, vis, Some ident, Some colon, ty)

-- attributes, a visibility and a type
unfoldable pub take_unnamed_field : Taking FieldForm
take_unnamed_field = do
  attrs ← take_attributes
  vis ← take_visibility
  ty ← take_type
  gives (attrs, vis, None, None, ty)

-- with these, `search` proves that the parse of a part takes something, or adds nothing
pub ruleset weighing_parts =
    (weighing_lists, lowers_attribute, lightens_visibility, lightens_type, lightens_expr)

-- a field with a name adds nothing to what is ahead
pub lightens_named_field : Lightens take_named_field
unfolding take_named_field
lightens_named_field = search weighing_parts depth 60

-- a field without a name adds nothing to what is ahead
pub lightens_unnamed_field : Lightens take_unnamed_field
unfolding take_unnamed_field
lightens_unnamed_field = search weighing_parts depth 60

-- the parse of a field with a name, if no invisible group is empty
abbrev pub named_field : Takings Field
named_field = told_filled field_form take_named_field (lighter lightens_named_field)

-- the parse of a field without a name, if no invisible group is empty
abbrev pub unnamed_field : Takings Field
unnamed_field = told_filled field_form take_unnamed_field (lighter lightens_unnamed_field)

-- fields and the commas between them
abbrev pub FieldList : Type 0
FieldList = List FieldForm × List (Token Comma)

-- a list of fields as contracts see it
abbrev pub list_of : Punctuated Field (Token Comma) → FieldList
list_of fields = list_form field_form (λ p. p) fields

-- fields with names, and the commas between them
unfoldable pub take_named : Taking FieldList
take_named = take_terminated take_named_field (take Comma)

-- fields without names, and the commas between them
unfoldable pub take_unnamed : Taking FieldList
take_unnamed = take_terminated take_unnamed_field (take Comma)

-- the parse of a list of fields with names, if no invisible group is empty
abbrev pub named_list : Takings (Punctuated Field (Token Comma))
named_list = taken_filled list_of take_named

-- the parse of a list of fields without names, if no invisible group is empty
abbrev pub unnamed_list : Takings (Punctuated Field (Token Comma))
unnamed_list = taken_filled list_of take_unnamed

-- fields in braces as contracts see them
abbrev pub named_fields_form : FieldsNamed → DelimSpan × FieldList
named_fields_form f = (f.brace_token.span, list_of f.named)

-- fields in parentheses as contracts see them
abbrev pub unnamed_fields_form : FieldsUnnamed → DelimSpan × FieldList
unnamed_fields_form f = (f.paren_token.span, list_of f.unnamed)

-- takes fields in braces
unfoldable pub take_named_fields : Taking (DelimSpan × FieldList)
take_named_fields = do
  fields ← take_group Brace take_named
  gives (fields.0, fields.1)

-- takes fields in parentheses
unfoldable pub take_unnamed_fields : Taking (DelimSpan × FieldList)
take_unnamed_fields = do
  fields ← take_group Parenthesis take_unnamed
  gives (fields.0, fields.1)

-- fields in braces take something, even if there is no field
pub lowers_named : Lowers take_named_fields
unfolding take_named_fields
lowers_named = search weighing_lists depth 40

-- fields in parentheses take something, even if there is no field
pub lowers_unnamed : Lowers take_unnamed_fields
unfolding take_unnamed_fields
lowers_unnamed = search weighing_lists depth 40

-- fields in braces add nothing to what is ahead
pub lightens_named : Lightens take_named_fields
lightens_named = lightens_lower take_named_fields lowers_named

-- fields in parentheses add nothing to what is ahead
pub lightens_unnamed : Lightens take_unnamed_fields
lightens_unnamed = lightens_lower take_unnamed_fields lowers_unnamed

-- fields in braces, fields in parentheses, or none
pub data FieldsForm : Type 0 where
  named : DelimSpan × FieldList → FieldsForm
  unnamed : DelimSpan × FieldList → FieldsForm
  unit : FieldsForm

-- fields as contracts see them
abbrev pub fields_form : Fields → FieldsForm
fields_form (fields.Named f) = named (named_fields_form f)
fields_form (fields.Unnamed f) = unnamed (unnamed_fields_form f)
fields_form fields.Unit = unit

-- takes fields in braces or in parentheses, or nothing
unfoldable pub take_fields : Taking FieldsForm
take_fields =
    where_ahead (sees_group Brace) (do
      f ← take_named_fields
      gives (named f)) (where_ahead (sees_group Parenthesis) (do
        f ← take_unnamed_fields
        gives (unnamed f)) (gives unit))

-- fields add nothing to what is ahead
pub lightens_fields : Lightens take_fields
unfolding take_fields
lightens_fields = search (weighing_lists, lightens_named, lightens_unnamed) depth 60

-- a variant: its name, its fields, and an expression after `=`
abbrev pub VariantForm : Type 0
VariantForm =
    List AttributeForm × Ident × FieldsForm × Option (Token Eq × Forest)

-- a variant as contracts see it
abbrev pub variant_form : Variant → VariantForm
variant_form v = (
  attributes_form v.attrs,
  v.ident,
  fields_form v.fields,
  option_map (λ d. (d.0, erase d.1.tokens)) v.discriminant,
)

-- attributes, a visibility that is not kept, a name, fields, and an expression after `=`
unfoldable pub take_variant : Taking VariantForm
take_variant = do
  attrs ← take_attributes
  _ ← take_visibility
  ident ← take_ident
  fields ← take_fields
  discriminant ← take_after (sees Eq) (take Eq) take_expr
  gives (attrs, ident, fields, discriminant)

-- a variant adds nothing to what is ahead
pub lightens_variant : Lightens take_variant
unfolding take_variant
lightens_variant = search (weighing_parts, lightens_fields) depth 60
