use Rattle.std.proofs.Common.{◌∙◌, [], ◌∷◌, Some, false, ap, sym}
use Rattle.std.specs.Prelude.{encode_utf8_all, string_bytes}
use Rattle.std.specs.Str.{chars}
use Rattle.std.proofs.lemmas.List.{append-nil}
use Rattle.std.proofs.lemmas.Str.{encodes-append}
use Rattle.tok_values.specs.Strings.{characters_of}
use Rattle.tok_values.proofs.Runs.{Pushed, run_means, run_pushed, unit_pushed}
use Rattle.tok_values.proofs.strings.push_text.Goals as goal
use Rattle.tok_values.proofs.strings.push_text.Goals.{in-Some-c+in_ok-push, in_default-c}

pub loop-c-init : goal.loop-c-init
loop-c-init c =
    let run = c.in_ok-rest.ensures.value in (
      c.in_ok-rest.ensures.utf8,
      (run.0, run_means false (chars c.args.text.now) run.0 _ run.1, run.2),
    )

pub loop-c-preserved : goal.loop-c-preserved
loop-c-preserved c =
    let text = chars c.args.text.now in
    let after = chars c.in-Some.after.now in
    let unit_more = unit_pushed false encode_utf8_all encodes-append text
    (chars c.loop-c.rest.now) after (string_bytes c.args.to.now) _ (string_bytes c.match-c.to) in
    let finds = c.in-Some.ensures.finds in
    let past : Pushed false encode_utf8_all text after (string_bytes c.args.to.now)
    (string_bytes c.match-c.to) =
    elim c.match-c.branch [
      | in-Some-c+in_ok-push w ↦
          unit_more (w.in-Some-c.c ∷ []) c.loop-c.invariant.1
          (rw append-nil (ap string_bytes w.to-is ∙ w.in_ok-push.ensures.bytes))
          (finds ∙ ap (λ o. Some (characters_of o, after)) w.in-Some-c.is)
      | in_default-c w ↦
          unit_more [] c.loop-c.invariant.1 (ap string_bytes w.to-is ∙ sym (append-nil _))
          (finds ∙ ap (λ o. Some (characters_of o, after)) w.in_default-c.is)
    ] in
    let run = c.in_ok-rest-2.ensures.value in (
      c.in_ok-rest-2.ensures.utf8,
      run_pushed false encode_utf8_all encodes-append text after _ _ _ _ run.0 past run.2 run.1,
    )
