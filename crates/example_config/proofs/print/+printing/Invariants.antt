use Rattle.std.proofs.Common.{◌≡◌, ◌≤◌, ◌+◌, ◌*◌, ◌++◌, List, ℕ, map}
use denote.Param.Weighed.{most}
use Rattle.std.specs.Fmt.{HasWritten, IsPlainFormatter}
use Rattle.syn_punctuated.specs.Lists.{values_of}
use Rattle.example_config.specs.Forms.{forms, setting_form, setting_forms, value_form}
use Rattle.example_config.specs.Printed.{in_a_row, setting_texts, value_texts}
use Rattle.example_config.specs.declared.value.Setting.{size-Setting}
use Rattle.example_config.specs.declared.value.Value.{size-Value}
use Rattle.example_config.proofs.Printing.{left}
use Rattle.example_config.proofs.print.+printing.Given as goal

abbrev pub decreases-write_setting : goal.decreases-write_setting
decreases-write_setting g l = 2 * size-Setting l.setting.now

abbrev pub decreases-write_value : goal.decreases-write_value
decreases-write_value g l = 2 * size-Value l.value.now

abbrev pub decreases-write_list : goal.decreases-write_list
decreases-write_list g l = 2 * most size-Value (values_of l.values.now) + 1

abbrev pub decreases-write_map : goal.decreases-write_map
decreases-write_map g l = 2 * most size-Setting (values_of l.settings.now) + 1

abbrev pub invariant-write_list-loop-item : goal.invariant-write_list-loop-item
invariant-write_list-loop-item g l =
    (most size-Value l.item-iterator ≤ most size-Value (values_of l.values))
    × (IsPlainFormatter l.initial.f → (done : List ℕ)
    × HasWritten g.W.Write.write_str_gives l.initial.f done l.f
    × (done ++ left l.is_first (value_texts (forms (map value_form l.item-iterator)))
    ≡ in_a_row (value_texts (forms (map value_form (values_of l.values))))))

abbrev pub invariant-write_map-loop-setting : goal.invariant-write_map-loop-setting
invariant-write_map-loop-setting g l =
    (most size-Setting l.setting-iterator ≤ most size-Setting (values_of l.settings))
    × (IsPlainFormatter l.initial.f → (done : List ℕ)
    × HasWritten g.W.Write.write_str_gives l.initial.f done l.f
    × (done ++ left l.is_first (setting_texts (setting_forms (map setting_form l.setting-iterator)))
    ≡ in_a_row (setting_texts (setting_forms (map setting_form (values_of l.settings))))))
