-- The table of a derive's input: rows of an item, its variants and fields, and their attributes.
use Rattle.std.specs.Prelude.{ℕ, List, [], ◌∷◌, ◌++◌, length, map, Option, None, Some, option_map}
use Rattle.tok_core.specs.Erase.{erase}
use Rattle.tok_core.specs.Forest.{Forest}
use Rattle.entry_outcomes.specs.Answers.{Given}
use Rattle.syn_parse.specs.TokenNames.{Eq, Token}
use Rattle.syn_derive.specs.Attributes.{AttributeForm}
use Rattle.syn_derive.specs.Fields.{FieldForm, FieldsForm, VariantForm, named, unit, unnamed}
use Rattle.syn_derive.specs.Generics.{WhereForm}
use Rattle.syn_derive.specs.Inputs.{DataForm, InputForm, of_enum, of_struct, of_union}
use Rattle.syn_derive.specs.Metas.{MetaInput, assigned, delimited, no_input}
use Rattle.syn_derive.specs.declared.ty.Expr.{Expr}
use Rattle.example_fields.specs.Ranges.{no_range, of_ident, of_input, of_name, of_path, of_tokens}
use Rattle.example_fields.specs.Ranges.{of_visibility}
use Rattle.example_fields.specs.declared.ranges.Range.{Range}
use Rattle.example_fields.specs.declared.table.Row.{Row}

-- a path alone, tokens in delimiters, or a value after `=`
abbrev pub input_number : MetaInput → ℕ
input_number no_input = 0
input_number (delimited d span inside) = 1
input_number (assigned eq value) = 2

-- the row of an attribute, with the ranges of its path and its input
abbrev pub attribute_row : AttributeForm → Row
attribute_row (pound, span, (path, input)) =
    record {
      kind = 6;
      form = input_number input;
      attributes = 0;
      name = of_path path;
      visibility = no_range;
      value = of_input input;
    }

-- a row for each attribute
abbrev pub attribute_rows : List AttributeForm → List Row
attribute_rows attrs = map attribute_row attrs

-- the row of a field, and those of its attributes
abbrev pub field_rows : FieldForm → List Row
field_rows (attrs, vis, name, colon, ty) =
    record {
      kind = 5;
      form = 0;
      attributes = length attrs;
      name = of_name name;
      visibility = of_visibility vis;
      value = of_tokens ty;
    }
    ∷ attribute_rows attrs

-- the rows of all fields, in order
abbrev pub list_rows : List FieldForm → List Row
list_rows [] = []
list_rows (f ∷ fs) = field_rows f ++ list_rows fs

-- the rows of a struct's or a variant's fields
abbrev pub fields_rows : FieldsForm → List Row
fields_rows (named fields) = list_rows fields.1.0
fields_rows (unnamed fields) = list_rows fields.1.0
fields_rows unit = []

-- no fields, fields in parentheses, or fields in braces
abbrev pub fields_number : FieldsForm → ℕ
fields_number unit = 0
fields_number (unnamed fields) = 1
fields_number (named fields) = 2

-- a discriminant, without invisible groups
abbrev pub discriminant_form : Option (Token Eq × Expr) → Option (Token Eq × Forest)
discriminant_form d = option_map (λ d. (d.0, erase d.1.tokens)) d

-- the range of a discriminant's tokens; the empty range if there is none
abbrev pub discriminant : Option (Token Eq × Forest) → Range
discriminant None = no_range
discriminant (Some d) = of_tokens d.1

-- the row of a variant, and those of its attributes and its fields
abbrev pub variant_rows : VariantForm → List Row
variant_rows (attrs, ident, fields, value) =
    record {
      kind = 4;
      form = fields_number fields;
      attributes = length attrs;
      name = of_ident ident;
      visibility = no_range;
      value = discriminant value;
    }
    ∷ (attribute_rows attrs ++ fields_rows fields)

-- the rows of all variants, in order
abbrev pub variants_rows : List VariantForm → List Row
variants_rows [] = []
variants_rows (v ∷ vs) = variant_rows v ++ variants_rows vs

-- the row of a `where` clause
abbrev pub clause_rows : Option WhereForm → List Row
clause_rows None = []
clause_rows (Some w) =
    record {
      kind = 3;
      form = 0;
      attributes = 0;
      name = no_range;
      visibility = no_range;
      value = of_tokens w.1;
    }
    ∷ []

-- the rows of the fields or the variants of an item
abbrev pub data_rows : DataForm → List Row
data_rows (of_struct word fields semi) = fields_rows fields
data_rows (of_enum word span variants) = variants_rows variants.0
data_rows (of_union word fields) = list_rows fields.1.0

-- a struct, an enum or a union
abbrev pub data_kind : DataForm → ℕ
data_kind (of_struct word fields semi) = 0
data_kind (of_enum word span variants) = 1
data_kind (of_union word fields) = 2

-- the number of the kind of a struct's fields; 0 for an enum, 2 for a union
abbrev pub data_number : DataForm → ℕ
data_number (of_struct word fields semi) = fields_number fields
data_number (of_enum word span variants) = 0
data_number (of_union word fields) = 2

-- the row of an item, with the ranges of its name, its visibility and its parameters
abbrev pub item_row : InputForm → Row
item_row (attrs, vis, (ident, params, clause, body)) =
    record {
      kind = data_kind body;
      form = data_number body;
      attributes = length attrs;
      name = of_ident ident;
      visibility = of_visibility vis;
      value = of_tokens params.1;
    }

-- the row of an item, its attributes, its `where` clause, and what it consists of
abbrev pub table : InputForm → List Row
table (attrs, vis, (ident, params, clause, body)) =
    item_row (attrs, vis, (ident, params, clause, body))
    ∷ (attribute_rows attrs ++ (clause_rows clause ++ data_rows body))

-- a table to write
abbrev pub given_table : InputForm → Given Row
given_table input =
    record { status = 0; refusal = 0; entry = 0; values = table input; messages = []; bytes = [] }
