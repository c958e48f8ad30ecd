-- What fields, variants, structs, enums and unions are written as: the order of "Structs",
-- "Enumerations" and "Unions" in the Rust Reference.
use Rattle.std.specs.Prelude.{Option, None, Some, if◌then◌else◌}
use Rattle.tok_lexical.specs.declared.delimiter.Delimiter.TheVariants.{Brace, Parenthesis}
use Rattle.tok_leaves.specs.Leaves.{ident_of}
use Rattle.tok_leaves.specs.declared.ident.Ident.{Ident}
use Rattle.tok_core.specs.Filled.{has_trees}
use Rattle.tok_core.specs.Forest.{Forest, leaf, no_trees, tree}
use Rattle.tok_core.specs.Laws.{followed_by, optional_trees}
use Rattle.syn_parse.specs.TokenNames.{Colon, Comma, Eq, Semi, Token}
use Rattle.syn_punctuated.specs.Lists.{separators_of, values_of}
use Rattle.syn_punctuated.specs.Printed.{by_turns}
use Rattle.syn_punctuated.specs.declared.punctuated.Punctuated.{Punctuated}
use Rattle.syn_derive.specs.Attributes.{attributes_trees}
use Rattle.syn_derive.specs.Metas.{value_trees}
use Rattle.syn_derive.specs.Printing.{group_trees, keyword_trees, or_default_trees, sign_trees}
use Rattle.syn_derive.specs.Visibilities.{visibility_trees}
use Rattle.syn_derive.specs.declared.data.Field.{Field}
use Rattle.syn_derive.specs.declared.data.Fields.{Fields}
use Rattle.syn_derive.specs.declared.data.Fields.TheVariants as fields
use Rattle.syn_derive.specs.declared.data.FieldsNamed.{FieldsNamed}
use Rattle.syn_derive.specs.declared.data.FieldsUnnamed.{FieldsUnnamed}
use Rattle.syn_derive.specs.declared.data.Variant.{Variant}
use Rattle.syn_derive.specs.declared.derive.Data.{Data}
use Rattle.syn_derive.specs.declared.derive.Data.TheVariants as kind
use Rattle.syn_derive.specs.declared.derive.DataEnum.{DataEnum}
use Rattle.syn_derive.specs.declared.derive.DeriveInput.{DeriveInput}
use Rattle.syn_derive.specs.declared.generics.Generics.{Generics}
use Rattle.syn_derive.specs.declared.generics.WhereClause.{WhereClause}
use Rattle.syn_derive.specs.declared.ty.Expr.{Expr}

-- an identifier
abbrev pub ident_trees : Ident → Forest
ident_trees i = tree (leaf (ident_of i)) no_trees

-- `<` and the parameters
abbrev pub opened_trees : Generics → Forest
opened_trees g = followed_by (or_default_trees g.lt_token) g.params

-- `<`, the parameters and `>`
abbrev pub params_trees : Generics → Forest
params_trees g = followed_by (opened_trees g) (or_default_trees g.gt_token)

-- `<`, the parameters and `>`, or nothing if there are no parameters
abbrev pub generics_trees : Generics → Forest
generics_trees g = if has_trees g.params then params_trees g else no_trees

-- `where` and the predicates
abbrev pub predicates_trees : WhereClause → Forest
predicates_trees w = followed_by (keyword_trees w.where_token) w.predicates

-- `where` and the predicates, or nothing if there are no predicates
abbrev pub where_trees : WhereClause → Forest
where_trees w = if has_trees w.predicates then predicates_trees w else no_trees

-- the attributes and the visibility of a field
abbrev pub field_head_trees : Field → Forest
field_head_trees f = followed_by (attributes_trees f.attrs) (visibility_trees f.vis)

-- a name and `:`
abbrev pub named_as_trees : Ident → Option (Token Colon) → Forest
named_as_trees i colon = followed_by (ident_trees i) (or_default_trees colon)

-- the name of a field and `:`, or nothing if it has no name
abbrev pub name_trees : Option Ident → Option (Token Colon) → Forest
name_trees None colon = no_trees
name_trees (Some i) colon = named_as_trees i colon

-- the name of a field and `:` if it has one, and its type
abbrev pub typed_trees : Field → Forest
typed_trees f = followed_by (name_trees f.ident f.colon_token) f.ty.tokens

-- a field: its attributes and its visibility, its name and `:` if it has a name, and its type
abbrev pub field_trees : Field → Forest
field_trees f = followed_by (field_head_trees f) (typed_trees f)

-- fields and the commas between them
abbrev pub list_trees : Punctuated Field (Token Comma) → Forest
list_trees l = by_turns field_trees sign_trees (values_of l) (separators_of l)

-- fields in braces
abbrev pub named_trees : FieldsNamed → Forest
named_trees f = group_trees Brace f.brace_token.span (list_trees f.named)

-- fields in parentheses
abbrev pub unnamed_trees : FieldsUnnamed → Forest
unnamed_trees f = group_trees Parenthesis f.paren_token.span (list_trees f.unnamed)

-- fields in braces or in parentheses, or nothing
abbrev pub fields_trees : Fields → Forest
fields_trees (fields.Named f) = named_trees f
fields_trees (fields.Unnamed f) = unnamed_trees f
fields_trees fields.Unit = no_trees

-- `=` and the expression of a variant, or nothing if it has none
abbrev pub discriminant_trees : Option (Token Eq × Expr) → Forest
discriminant_trees None = no_trees
discriminant_trees (Some d) = value_trees d.0 d.1.tokens

-- the attributes and the name of a variant
abbrev pub variant_head_trees : Variant → Forest
variant_head_trees v = followed_by (attributes_trees v.attrs) (ident_trees v.ident)

-- the fields of a variant, and `=` and an expression if it has one
abbrev pub variant_rest_trees : Variant → Forest
variant_rest_trees v = followed_by (fields_trees v.fields) (discriminant_trees v.discriminant)

-- a variant: its attributes, its name, its fields, and `=` and an expression if it has one
abbrev pub variant_trees : Variant → Forest
variant_trees v = followed_by (variant_head_trees v) (variant_rest_trees v)

-- a `where` clause, if there is one
abbrev pub clause_trees : Option WhereClause → Forest
clause_trees clause = optional_trees where_trees clause

-- a `where` clause and `;`
abbrev pub unit_trees : Option WhereClause → Option (Token Semi) → Forest
unit_trees clause semi = followed_by (clause_trees clause) (or_default_trees semi)

-- fields in parentheses, a `where` clause and `;`
abbrev pub tuple_trees : Option WhereClause → FieldsUnnamed → Option (Token Semi) → Forest
tuple_trees clause f semi = followed_by (unnamed_trees f) (unit_trees clause semi)

-- a struct after its parameters: fields in braces come after the `where` clause, those in
-- parentheses before it, and `;` is at the end unless there are braces
abbrev pub struct_trees : Option WhereClause → Fields → Option (Token Semi) → Forest
struct_trees clause (fields.Named f) semi = followed_by (clause_trees clause) (named_trees f)
struct_trees clause (fields.Unnamed f) semi = tuple_trees clause f semi
struct_trees clause fields.Unit semi = unit_trees clause semi

-- an enum after its parameters: its `where` clause, and in braces its variants and their commas
abbrev pub enum_trees : Option WhereClause → DataEnum → Forest
enum_trees clause d =
    followed_by (clause_trees clause)
    (group_trees Brace d.brace_token.span
    (by_turns variant_trees sign_trees (values_of d.variants) (separators_of d.variants)))

-- a struct, an enum or a union after its parameters
abbrev pub body_trees : Option WhereClause → Data → Forest
body_trees clause (kind.Struct d) = struct_trees clause d.fields d.semi_token
body_trees clause (kind.Enum d) = enum_trees clause d
body_trees clause (kind.Union d) = followed_by (clause_trees clause) (named_trees d.fields)

-- the word with which a struct, an enum or a union begins
abbrev pub word_trees : Data → Forest
word_trees (kind.Struct d) = keyword_trees d.struct_token
word_trees (kind.Enum d) = keyword_trees d.enum_token
word_trees (kind.Union d) = keyword_trees d.union_token

-- the attributes and the visibility of a derive input
abbrev pub head_trees : DeriveInput → Forest
head_trees i = followed_by (attributes_trees i.attrs) (visibility_trees i.vis)

-- the word of an item and its name
abbrev pub input_name_trees : DeriveInput → Forest
input_name_trees i = followed_by (word_trees i.data) (ident_trees i.ident)

-- the parameters of an item, and its parts after them
abbrev pub input_body_trees : DeriveInput → Forest
input_body_trees i =
    followed_by (generics_trees i.generics) (body_trees i.generics.where_clause i.data)

-- the word of an item, its name, its parameters, and its parts after them
abbrev pub item_trees : DeriveInput → Forest
item_trees i = followed_by (input_name_trees i) (input_body_trees i)

-- a derive input: its attributes, its visibility and its item
abbrev pub input_trees : DeriveInput → Forest
input_trees i = followed_by (head_trees i) (item_trees i)
