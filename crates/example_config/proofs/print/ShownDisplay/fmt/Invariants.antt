use Rattle.std.proofs.Common.{◌≡◌, ◌++◌, List, ℕ, map}
use Rattle.std.specs.Fmt.{HasWritten, IsPlainFormatter}
use Rattle.syn_punctuated.specs.Lists.{values_of}
use Rattle.example_config.specs.Forms.{setting_form}
use Rattle.example_config.specs.Printed.{settings_text}
use Rattle.example_config.proofs.print.ShownDisplay.fmt.Given as goal

abbrev pub invariant-loop-setting : goal.invariant-loop-setting
invariant-loop-setting g l =
    IsPlainFormatter l.initial.f → (done : List ℕ)
    × HasWritten g.W.Write.write_str_gives l.initial.f done l.f
    × (done ++ settings_text (map setting_form l.setting-iterator)
    ≡ settings_text (map setting_form (values_of l.self.0.now)))
