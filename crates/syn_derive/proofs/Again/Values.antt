-- What is written of a value that the grammar has is that value again.
use Rattle.std.proofs.Common.{arith, ◌≡◌, ◌∙◌, sym, subst, Option, Ok, Err}
use Rattle.std.specs.Prelude.{MatchResult, Result, option_map}
use Rattle.tok_core.specs.Erase.{erase}
use Rattle.tok_core.specs.Filled.{has_trees}
use Rattle.tok_core.specs.Forest.{Forest, no_trees}
use Rattle.tok_core.proofs.Facts.{concat-none}
use Rattle.syn_parse.specs.Faults.{IsMemory}
use Rattle.syn_parse.specs.declared.fault.Fault.{Fault}
use Rattle.syn_parse.specs.declared.fault.Fault.TheVariants.{Memory, Refused}
use Rattle.syn_parse.proofs.Shapes.{found_first}
use Rattle.syn_punctuated.proofs.Exactly.{takes}
use Rattle.syn_punctuated.specs.Parts.{Part}
use Rattle.syn_derive.specs.Again.{ParsedAgain, ParsedAnywhere, again_clause, again_form}
use Rattle.syn_derive.specs.Attributes.{attribute_form, attribute_trees}
use Rattle.syn_derive.specs.Fields.{field_form, fields_form, variant_form}
use Rattle.syn_derive.specs.Generics.{where_form}
use Rattle.syn_derive.specs.Grammar.{AreVariantFields, IsAttr, IsAttrList, IsAttrValue}
use Rattle.syn_derive.specs.Grammar.{IsAttribute, IsDeriveInput}
use Rattle.syn_derive.specs.Grammar.{IsEnumVariant, IsMetaItemInner, IsNestedMeta, IsPath}
use Rattle.syn_derive.specs.Grammar.{IsStructField}
use Rattle.syn_derive.specs.Grammar.{IsRun, IsTupleField, run}
use Rattle.syn_derive.specs.Grammar.{IsVisibility, ParsesInput}
use Rattle.syn_derive.specs.Inputs.{input_form}
use Rattle.syn_derive.specs.Metas.{meta_form, meta_list_form, meta_list_trees, meta_trees}
use Rattle.syn_derive.specs.Metas.{name_value_form, name_value_trees}
use Rattle.syn_derive.specs.NestedMetas.{nested_form, nested_trees}
use Rattle.syn_derive.specs.Paths.{path_form, path_trees}
use Rattle.syn_derive.specs.Visibilities.{visibility_form, visibility_trees}
use Rattle.syn_derive.specs.Written.{field_trees, fields_trees, input_trees, variant_trees}
use Rattle.syn_derive.specs.declared.derive.DeriveInput.{DeriveInput}
use Rattle.syn_derive.specs.declared.generics.WhereClause.{WhereClause}
use Rattle.syn_derive.proofs.Again.Alike.{alike_same}
use Rattle.syn_derive.proofs.Again.Fields.{field_onto, fields_again, fields_onto}
use Rattle.syn_derive.proofs.Again.Fields.{struct_field_again}
use Rattle.syn_derive.proofs.Again.Fields.{tuple_field_again, variant_again, variant_onto}
use Rattle.syn_derive.proofs.Again.Items.{clause_of, input_again}
use Rattle.syn_derive.proofs.Again.Metas.{all_same, attribute_again, item_onto, meta_again}
use Rattle.syn_derive.proofs.Again.Metas.{meta_item_again, meta_list_again, meta_onto}
use Rattle.syn_derive.proofs.Again.Metas.{name_value_again, nested_meta_again, path_again}
use Rattle.syn_derive.proofs.Again.Metas.{path_onto}
use Rattle.syn_derive.proofs.Again.Metas.{visibility_again}
use Rattle.syn_derive.proofs.Again.Parts.{Again, Onto}
use Rattle.syn_derive.proofs.Again.Written as written
use Rattle.syn_derive.proofs.Again.Written.{Puts, all_fields, attribute, field, has_predicates}
use Rattle.syn_derive.proofs.Again.Written.{input, items, metas, path, variant, visibility}
use Rattle.syn_derive.proofs.Grammar.Items.{derive_input_exactly}

-- from what is written to what is parsed
module _ {V A : Type 0} {Is : Part A} {trees : V → Forest} (form : V → A) (onto : Onto A)
    (each : (v : V) → Puts (trees v) (onto (form v))) where
  parsed : ((f g : Forest) (v : A) → Is f v g → Is (onto v g) v g)
      → ParsedAgain Is form trees
  parsed i f g v h = grind arith

  parsed_again : Again Is onto → ParsedAgain Is form trees
  parsed_again e = parsed (λ f g v i. e.again i alike_same)

pub paths : ParsedAgain IsPath path_form path_trees
paths = parsed_again path_form path_onto path path_again

pub visibilities : ParsedAgain IsVisibility visibility_form visibility_trees
visibilities = grind (arith, parsed, visibility, visibility_again, all_same)

pub attributes_hold : ParsedAgain IsAttr meta_form meta_trees
attributes_hold = parsed_again meta_form meta_onto metas meta_again

pub meta_lists : ParsedAgain IsAttrList meta_list_form meta_list_trees
meta_lists = parsed_again meta_list_form meta_onto written.meta_lists meta_list_again

pub name_values : ParsedAgain IsAttrValue name_value_form name_value_trees
name_values = parsed_again name_value_form meta_onto written.name_values name_value_again

pub nested_metas : ParsedAgain IsNestedMeta meta_form meta_trees
nested_metas = parsed_again meta_form meta_onto metas nested_meta_again

pub meta_items : ParsedAgain IsMetaItemInner nested_form nested_trees
meta_items = parsed_again nested_form item_onto items meta_item_again

pub attributes : ParsedAnywhere IsAttribute attribute_form attribute_form attribute_trees
attributes f g h v i =
    subst (λ t. IsAttribute t (attribute_form v) h) (sym ((attribute v).puts h))
    (attribute_again.always i h)

pub struct_fields : ParsedAgain IsStructField field_form field_trees
struct_fields = parsed_again field_form field_onto field struct_field_again

pub tuple_fields : ParsedAgain IsTupleField field_form field_trees
tuple_fields = parsed_again field_form field_onto field tuple_field_again

pub variant_fields : ParsedAgain AreVariantFields fields_form fields_trees
variant_fields = parsed_again fields_form fields_onto all_fields fields_again

pub variants : ParsedAgain IsEnumVariant variant_form variant_trees
variants = parsed_again variant_form variant_onto variant variant_again

-- derive inputs
clause_same : (c : Option WhereClause)
    → clause_of (has_predicates c) (option_map where_form c) ≡ again_clause c
clause_same c = grind arith

pub inputs : ParsedAnywhere IsDeriveInput input_form again_form input_trees
inputs f g h i is =
    let again = input_again (has_trees i.generics.params) (has_predicates i.generics.where_clause)
    is h in
    subst (λ t. IsDeriveInput t (again_form i) h) (sym ((input i).puts h))
    (rw (sym (clause_same i.generics.where_clause)) again)

-- tokens are written as they are
pub runs : {Are : Forest → Forest → Type 0} → ParsedAgain (IsRun Are) erase (λ f. f)
runs f g v (run h) = run h

-- and as a whole stream
pub whole_inputs : (f g trees : Forest) (i : DeriveInput) (result : Result DeriveInput Fault)
    → IsDeriveInput f (input_form i) g → erase trees ≡ erase (input_trees i)
    → ParsesInput trees result
    → MatchResult result (λ second. input_form second ≡ again_form i) IsMemory
whole_inputs f g trees i result is same = go result where
  again : IsDeriveInput (erase trees) (again_form i) no_trees
  again =
      subst (λ t. IsDeriveInput t (again_form i) no_trees)
      (concat-none (erase (input_trees i)) ∙ sym same) (inputs f g no_trees i is)

  go : (result : Result DeriveInput Fault) → ParsesInput trees result
      → MatchResult result (λ second. input_form second ≡ again_form i) IsMemory
  go (Ok second) k =
      found_first (sym (takes derive_input_exactly k) ∙ takes derive_input_exactly again)
  go (Err (Refused e)) k = k.0 (again_form i) again
  go (Err (Memory e)) k = tt
