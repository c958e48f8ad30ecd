use Rattle.syn_derive.proofs.Grammar.Attributes.{attribute, attributes, meta, meta_list}
use Rattle.syn_derive.proofs.Grammar.Attributes.{name_value, nested_meta, nested_metas}
use Rattle.syn_punctuated.proofs.Exactly.{has_grammar}
use Rattle.syn_derive.proofs.Grammar.Fields.{named_field, unnamed_field, variant, variant_fields}
use Rattle.syn_derive.proofs.Grammar.Items.{clause_of, derive_input_exactly, params}
use Rattle.syn_derive.proofs.Grammar.NestedMetas.{meta_item_inner, meta_seq_exactly}
use Rattle.syn_derive.proofs.Grammar.Paths.{path}
use Rattle.syn_derive.proofs.Grammar.Visibilities.{visibility}
use Rattle.syn_derive.proofs.laws.grammar_is_parsed.Goals as goal

pub returns-clause-paths : goal.returns-clause-paths
returns-clause-paths c = has_grammar path

pub returns-clause-visibilities : goal.returns-clause-visibilities
returns-clause-visibilities c = has_grammar visibility

pub returns-clause-metas : goal.returns-clause-metas
returns-clause-metas c = has_grammar meta

pub returns-clause-meta_lists : goal.returns-clause-meta_lists
returns-clause-meta_lists c = has_grammar meta_list

pub returns-clause-name_values : goal.returns-clause-name_values
returns-clause-name_values c = has_grammar name_value

pub returns-clause-nested_metas : goal.returns-clause-nested_metas
returns-clause-nested_metas c = has_grammar nested_metas

pub returns-clause-nested_meta : goal.returns-clause-nested_meta
returns-clause-nested_meta c = has_grammar nested_meta

pub returns-clause-meta_items : goal.returns-clause-meta_items
returns-clause-meta_items c = has_grammar meta_item_inner

pub returns-clause-meta_seqs : goal.returns-clause-meta_seqs
returns-clause-meta_seqs c = has_grammar meta_seq_exactly

pub returns-clause-attribute : goal.returns-clause-attribute
returns-clause-attribute c = has_grammar attribute

pub returns-clause-attributes : goal.returns-clause-attributes
returns-clause-attributes c = has_grammar attributes

pub returns-clause-named_fields : goal.returns-clause-named_fields
returns-clause-named_fields c = has_grammar named_field

pub returns-clause-unnamed_fields : goal.returns-clause-unnamed_fields
returns-clause-unnamed_fields c = has_grammar unnamed_field

pub returns-clause-fields : goal.returns-clause-fields
returns-clause-fields c = has_grammar variant_fields

pub returns-clause-variants : goal.returns-clause-variants
returns-clause-variants c = has_grammar variant

pub returns-clause-generics : goal.returns-clause-generics
returns-clause-generics c = has_grammar params

pub returns-clause-where_clauses : goal.returns-clause-where_clauses
returns-clause-where_clauses c = has_grammar clause_of

pub returns-clause-inputs : goal.returns-clause-inputs
returns-clause-inputs c = has_grammar derive_input_exactly
