-- The form of a value that holds values.
use Rattle.syn_punctuated.proofs.Mapped.{IsOfList, of_list}
use Rattle.example_callers.specs.Values.{listed, value_form}
use Rattle.example_callers.specs.declared.value.Value as made

pub form_list : IsOfList value_form value_form made.List listed
form_list = search (of_list, made.the_lemmas)
