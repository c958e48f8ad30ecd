use Rattle.std.proofs.Common.{◌≡◌, ◌∙◌, ◌++◌, ap, append_assoc, codes, flat_map, rules, subst, sym}
use Rattle.std.proofs.Common.{IsUtf8, []}
use Rattle.std.proofs.Output.{has_written_append}
use Rattle.std.proofs.lemmas.Grind.{put_three}
use Rattle.std.proofs.lemmas.List.{append-nil, nil_from_length}
use Rattle.std.proofs.lemmas.Str.{IsUtf8-past_char, chars-nil, chars_past_char}
use Rattle.std.specs.Str.{chars}
use Rattle.std.specs.Str.Iter.{chars_rest}
use Rattle.tok_leaves.specs.Quoting.{escaped}
use Rattle.example_config.proofs.Printing.{none_written}
use Rattle.example_config.proofs.print.write_text.Goals as goal

pub loop-c-init : goal.loop-c-init
loop-c-init g c =
    let rest_is : chars_rest c.into_iter-c-iterator.result ≡ c.args.text.now = search rules in (
      subst IsUtf8 (sym rest_is) c.utf8.text,
      λ plain.
          ([], none_written _ _ plain, ap (λ bytes. flat_map escaped (chars bytes)) rest_is),
    )

pub loop-c-preserved : goal.loop-c-preserved
loop-c-preserved g c =
    let held = c.loop-c.invariant in
    let parts = c.in-Some.ensures.steps.0 in
    let one = c.in-Some.c in (
      IsUtf8-past_char _ _ one held.0 parts,
      λ plain.
          let (done, wrote, more) = held.1 plain in
          let next = c.write_escaped.ensures wrote.plain (search rules) in (
            done ++ escaped one,
            has_written_append _ _ _ _ _ _ wrote next,
            append_assoc done (escaped one) _
                ∙ ap (λ w. done ++ flat_map escaped w) (sym (chars_past_char _ _ one held.0 parts))
                ∙ more,
          ),
    )

pub returns : goal.returns
returns g c =
    λ plain ok.
    let opened = c.write_str.ensures.writes plain (search rules) in
    let (done, wrote, more) = c.loop-c.invariant.1 opened.plain in
    let closed = c.write_str-2.ensures.writes wrote.plain ok in
    let ended = ap chars (nil_from_length _ c.in-None.ensures.steps.0.0) ∙ chars-nil in
    let whole = sym (append-nil done) ∙ ap (λ w. done ++ flat_map escaped w) (sym ended) ∙ more in
    let quoted = ap (λ w. codes "\"" ++ (w ++ codes "\"")) whole in
    put_three _ _ _ _ _ _ _ _ _ opened wrote closed quoted
