-- The forms of a list and of a map.
use Rattle.syn_punctuated.proofs.Mapped.{IsOfList, of_list}
use Rattle.example_config.specs.Forms.{listed, mapped, setting_form, value_form}
use Rattle.example_config.specs.declared.value.Value as made

pub formed : IsOfList value_form value_form made.List listed
    × IsOfList setting_form value_form made.Map mapped
formed = search (of_list, made.the_lemmas)
