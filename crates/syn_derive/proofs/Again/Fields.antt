-- Fields and variants are parsed again as they are written.
use Rattle.std.proofs.Common.{arith, refl, List, Option, None, Some}
use Rattle.std.proofs.lemmas.Bool.{false≢true}
use Rattle.tok_lexical.specs.declared.delimiter.Delimiter.{Delimiter}
use Rattle.tok_lexical.specs.declared.delimiter.Delimiter.TheVariants.{Brace, Parenthesis}
use Rattle.tok_leaves.specs.declared.ident.Ident.{Ident}
use Rattle.tok_leaves.specs.declared.span.DelimSpan.{DelimSpan}
use Rattle.tok_core.specs.Forest.{Forest, concat}
use Rattle.syn_parse.specs.TokenNames.{Colon, Comma, Eq, Token}
use Rattle.syn_punctuated.specs.Parts.{InGroup, IsIdentifier, Optional, Part, absent, identifier}
use Rattle.syn_punctuated.specs.Parts.{in_group, present}
use Rattle.syn_derive.specs.Again.{given}
use Rattle.syn_derive.specs.Fields.{FieldForm, FieldList, FieldsForm, VariantForm, named, unit}
use Rattle.syn_derive.specs.Fields.{unnamed}
use Rattle.syn_derive.specs.Grammar.{AreEnumVariants, AreStructFields, AreTupleFields}
use Rattle.syn_derive.specs.Grammar.{AreVariantFields, IsDiscriminant, IsEnumVariant, IsEq}
use Rattle.syn_derive.specs.Grammar.{IsRun, IsStructField, IsTupleField, IsVisibility, discriminant}
use Rattle.syn_derive.specs.Grammar.{enum_variant, enum_variant_struct, enum_variant_tuple}
use Rattle.syn_derive.specs.Grammar.{is_inherited, is_public, is_restricted, no_variant_fields}
use Rattle.syn_derive.specs.Grammar.{run, struct_field, tuple_field}
use Rattle.syn_derive.specs.RunGrammar.{IsType}
use Rattle.syn_derive.specs.Visibilities.{VisibilityForm}
use Rattle.syn_derive.specs.declared.run.Last.TheVariants.{Operator}
use Rattle.syn_derive.specs.declared.run.Until.TheVariants.{Ty}
use Rattle.syn_punctuated.specs.Parts.{word}
use Rattle.syn_derive.proofs.Grammar.Paths.{not_reserved}
use Rattle.syn_derive.proofs.Again.Alike.{Alike, alike_after, alike_groups, alike_words}
use Rattle.syn_derive.proofs.Again.Alike.{tokens_alike}
use Rattle.syn_derive.proofs.Again.Metas.{SameFirst, attribute_onto, attributes_again, comma_again}
use Rattle.syn_derive.proofs.Again.Metas.{comma_alike, eq_again, eq_alike, eq_decided, expr_again}
use Rattle.syn_derive.proofs.Again.Metas.{first_same, optional_onto, visibility_again}
use Rattle.syn_derive.proofs.Again.Metas.{visibility_alike, visibility_onto}
use Rattle.syn_derive.proofs.Again.Parts.{Again, Always, Onto, all_onto, decided_group}
use Rattle.syn_derive.proofs.Again.Parts.{group_again, group_onto, ident_again, ident_onto}
use Rattle.syn_derive.proofs.Again.Parts.{run_again, sign_again, sign_onto, terminated_again}
use Rattle.syn_derive.proofs.Again.Parts.{turns_onto}

-- an identifier and a type are the first of what is after them
pub ident_first : {f g h : Forest} {v : Ident} → IsIdentifier f v g → SameFirst f (ident_onto v h)
ident_first (identifier a) = first_same

ident_alike : {f g h : Forest} {v : Ident} → IsIdentifier f v g → Alike f (ident_onto v h)
ident_alike (identifier a) = alike_words

type_again : Again (IsRun IsType) (λ f h. concat f h)
type_again = run_again (λ m f g r a. (tokens_alike 0 Ty Operator m f g r.0 a, r.1))

type_first : {f g v : Forest} → IsRun IsType f v g → (h : Forest) → SameFirst f (concat v h)
type_first k h = grind (arith, false≢true, first_same)

type_alike : {f g h v : Forest} → IsRun IsType f v g → Alike g h → Alike f (concat v h)
type_alike (run {trees} r) a = alike_after trees a

-- fields
abbrev pub named_onto : Option Ident → Option (Token Colon) → Forest → Forest
named_onto None colon h = h
named_onto (Some i) colon h = ident_onto i (sign_onto (given colon) h)

abbrev pub field_onto : Onto FieldForm
field_onto f h =
    all_onto attribute_onto f.0 (visibility_onto f.1 (named_onto f.2 f.3 (concat f.4 h)))

pub struct_field_again : Again IsStructField field_onto
struct_field_again = record { again = λ i a. go i a } where
  go : {f g h : Forest} {v : FieldForm} → IsStructField f v g → Alike g h
      → IsStructField (field_onto v h) v h
  go (struct_field a v n c t) same =
      struct_field (attributes_again.again a (visibility_alike v (ident_alike n)))
      (visibility_again v (ident_first n)) (ident_again.always n _)
      ((sign_again 6 1 refl).always c _) (type_again.again t same)

pub tuple_field_again : Again IsTupleField field_onto
tuple_field_again = record { again = λ i a. go i a } where
  go : {f g h : Forest} {v : FieldForm} → IsTupleField f v g → Alike g h
      → IsTupleField (field_onto v h) v h
  go (tuple_field a v t) same =
      tuple_field (attributes_again.again a (visibility_alike v (type_alike t same)))
      (visibility_again v (type_first t _)) (type_again.again t same)

abbrev pub list_onto : Onto FieldList
list_onto = turns_onto field_onto sign_onto

pub struct_fields_again : Always (InGroup Brace AreStructFields) (group_onto Brace list_onto)
struct_fields_again =
    group_again Brace (terminated_again comma_again comma_alike struct_field_again)

pub tuple_fields_again : Always (InGroup Parenthesis AreTupleFields)
    (group_onto Parenthesis list_onto)
tuple_fields_again =
    group_again Parenthesis (terminated_again comma_again comma_alike tuple_field_again)

pub group_alike : {A : Type 0} {Is : Part A} {d : Delimiter} {f g h : Forest} {x : DelimSpan × A}
    (onto : Onto A) → InGroup d Is f x g → Alike f (group_onto d onto x h)
group_alike onto (in_group i) = alike_groups

-- the fields of a variant
abbrev pub fields_onto : Onto FieldsForm
fields_onto (named x) h = group_onto Brace list_onto x h
fields_onto (unnamed x) h = group_onto Parenthesis list_onto x h
fields_onto unit h = h

pub fields_again : Again AreVariantFields fields_onto
fields_again = record { again = λ i a. go i a } where
  go : {f g h : Forest} {v : FieldsForm} → AreVariantFields f v g → Alike g h
      → AreVariantFields (fields_onto v h) v h
  go (enum_variant_tuple i) a = enum_variant_tuple (tuple_fields_again.always i _)
  go (enum_variant_struct i) a = enum_variant_struct (struct_fields_again.always i _)
  go (no_variant_fields p b) a =
      no_variant_fields ((decided_group Parenthesis).none a p) ((decided_group Brace).none a b)

-- `=` and an expression
abbrev Value : Type 0
Value = Option (Token Eq × Forest)

abbrev pub value_onto : Onto Value
value_onto = optional_onto (λ d h. sign_onto d.0 (concat d.1 h))

value_again : {f g h : Forest} {v : Value} → Optional IsEq IsDiscriminant f v g → Alike g h
    → Optional IsEq IsDiscriminant (value_onto v h) v h
value_again (absent n) a = absent (eq_decided.none a n)
value_again (present (discriminant e v)) a =
    present (discriminant (eq_again.always e _) (expr_again.again v a))

value_alike : {f g h : Forest} {v : Value} → Optional IsEq IsDiscriminant f v g → Alike g h
    → Alike f (value_onto v h)
value_alike (absent n) a = a
value_alike (present (discriminant e v)) a = eq_alike e _

-- a variant, which is written without its visibility
abbrev pub variant_onto : Onto VariantForm
variant_onto v h =
    all_onto attribute_onto v.0 (ident_onto v.1 (fields_onto v.2 (value_onto v.3 h)))

without_visibility : {f g i h : Forest} {vis : VisibilityForm} {name : Ident}
    → IsVisibility f vis g → IsIdentifier g name i → Alike f (ident_onto name h)
without_visibility (is_public word n) i = alike_words
without_visibility (is_restricted word p) i = alike_words
without_visibility (is_inherited n) i = ident_alike i

pub variant_again : Again IsEnumVariant variant_onto
variant_again = record { again = λ i a. go i a } where
  go : {f g h : Forest} {v : VariantForm} → IsEnumVariant f v g → Alike g h
      → IsEnumVariant (variant_onto v h) v h
  go (enum_variant a v n w d) same =
      let name = ident_again.always n _ in
      enum_variant (attributes_again.again a (without_visibility v n))
      (is_inherited (not_reserved refl name)) name (fields_again.again w (value_alike d same))
      (value_again d same)

abbrev pub variants_onto : Onto (List VariantForm × List (Token Comma))
variants_onto = turns_onto variant_onto sign_onto

pub variants_again : Always (InGroup Brace AreEnumVariants) (group_onto Brace variants_onto)
variants_again = group_again Brace (terminated_again comma_again comma_alike variant_again)
