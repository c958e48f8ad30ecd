use Rattle.syn_derive.proofs.Again.Values.{attributes, attributes_hold, inputs, meta_items}
use Rattle.syn_derive.proofs.Again.Values.{meta_lists, name_values, nested_metas, paths}
use Rattle.syn_derive.proofs.Again.Values.{struct_fields, tuple_fields, variant_fields, variants}
use Rattle.syn_derive.proofs.Again.Values.{runs, visibilities}
use Rattle.syn_derive.proofs.laws.printed_values_are_parsed.Goals as goal

pub returns-clause-types : goal.returns-clause-types
returns-clause-types c = runs

pub returns-clause-expressions : goal.returns-clause-expressions
returns-clause-expressions c = runs

pub returns-clause-paths : goal.returns-clause-paths
returns-clause-paths c = paths

pub returns-clause-visibilities : goal.returns-clause-visibilities
returns-clause-visibilities c = visibilities

pub returns-clause-metas : goal.returns-clause-metas
returns-clause-metas c = attributes_hold

pub returns-clause-meta_lists : goal.returns-clause-meta_lists
returns-clause-meta_lists c = meta_lists

pub returns-clause-name_values : goal.returns-clause-name_values
returns-clause-name_values c = name_values

pub returns-clause-nested_metas : goal.returns-clause-nested_metas
returns-clause-nested_metas c = nested_metas

pub returns-clause-meta_items : goal.returns-clause-meta_items
returns-clause-meta_items c = meta_items

pub returns-clause-attributes : goal.returns-clause-attributes
returns-clause-attributes c = attributes

pub returns-clause-named_fields : goal.returns-clause-named_fields
returns-clause-named_fields c = struct_fields

pub returns-clause-unnamed_fields : goal.returns-clause-unnamed_fields
returns-clause-unnamed_fields c = tuple_fields

pub returns-clause-fields : goal.returns-clause-fields
returns-clause-fields c = variant_fields

pub returns-clause-variants : goal.returns-clause-variants
returns-clause-variants c = variants

pub returns-clause-inputs : goal.returns-clause-inputs
returns-clause-inputs c = inputs
