use Rattle.std.proofs.Common.{◌≡◌, ◌∙◌, ◌++◌, ap, append_assoc, map, rules, subst, sym, []}
use Rattle.std.proofs.Output.{has_written_append, has_written_of_eq}
use Rattle.std.proofs.lemmas.List.{append-nil}
use Rattle.syn_punctuated.specs.Lists.{values_of}
use Rattle.example_config.specs.Forms.{setting_form}
use Rattle.example_config.specs.Printed.{settings_text}
use Rattle.example_config.proofs.Printing.{none_written}
use Rattle.example_config.proofs.print.ShownDisplay.fmt.Goals as goal

pub loop-setting-init : goal.loop-setting-init
loop-setting-init g c =
    λ plain. (
      [],
      none_written _ _ plain,
      ap (λ s. settings_text (map setting_form s))
          c.into_iter-setting-iterator.ensures.into_iter_gives.0,
    )

pub loop-setting-preserved : goal.loop-setting-preserved
loop-setting-preserved g c =
    λ plain.
    let (done, wrote, more) = c.loop-setting.invariant plain in
    let one = c.write_setting.ensures wrote.plain (search rules) in
    let two = c.write_str.ensures.writes one.plain (search rules) in (
      _,
      has_written_append _ _ _ _ _ _ wrote (has_written_append _ _ _ _ _ _ one two),
      append_assoc done _ _
          ∙ subst (λ s. done ++ settings_text (map setting_form s)
          ≡ settings_text (map setting_form (values_of c.args.self.now.0.now)))
          c.in-Some.ensures.steps more,
    )

pub returns-clause-writes : goal.returns-clause-writes
returns-clause-writes g c =
    λ plain ok.
    let (done, wrote, more) = c.loop-setting.invariant plain in
    has_written_of_eq _ _ _ _ _ (sym (append-nil done)
    ∙ ap (λ s. done ++ settings_text (map setting_form s)) (sym c.in-None.ensures.steps.0) ∙ more)
    wrote
