use Rattle.std.proofs.Common.{◌∙◌, [], ◌∷◌, Some, true, ap, refl, sym}
use Rattle.std.specs.Str.{chars}
use Rattle.std.proofs.lemmas.List.{append-nil}
use Rattle.tok_values.specs.Strings.{characters_of}
use Rattle.tok_values.proofs.Runs.{Pushed, run_means, run_pushed, unit_pushed}
use Rattle.tok_values.proofs.strings.push_bytes.Goals as goal
use Rattle.tok_values.proofs.strings.push_bytes.Goals.{in-Some-c+in_ok-push, in_default-c}

pub loop-c-init : goal.loop-c-init
loop-c-init c =
    let run = c.in_ok-rest.ensures.value in (
      c.in_ok-rest.ensures.utf8,
      (run.0, run_means true (chars c.args.text.now) run.0 _ run.1, run.2),
    )

pub loop-c-preserved : goal.loop-c-preserved
loop-c-preserved c =
    let text = chars c.args.text.now in
    let after = chars c.in-Some.after.now in
    let unit_more = unit_pushed true (λ w. w) (λ xs ys. refl) text (chars c.loop-c.rest.now)
    after c.args.to.now.items _ c.match-c.to.items in
    let finds = c.in-Some.ensures.finds in
    let past : Pushed true (λ w. w) text after c.args.to.now.items c.match-c.to.items =
    elim c.match-c.branch [
      | in-Some-c+in_ok-push w ↦
          unit_more (w.in-Some-c.c ∷ []) c.loop-c.invariant.1
          (ap (λ v. v.items) w.to-is ∙ w.in_ok-push.ensures.items)
          (finds ∙ ap (λ o. Some (characters_of o, after)) w.in-Some-c.is)
      | in_default-c w ↦
          unit_more [] c.loop-c.invariant.1 (ap (λ v. v.items) w.to-is ∙ sym (append-nil _))
          (finds ∙ ap (λ o. Some (characters_of o, after)) w.in_default-c.is)
    ] in
    let run = c.in_ok-rest-2.ensures.value in (
      c.in_ok-rest-2.ensures.utf8,
      run_pushed true (λ w. w) (λ xs ys. refl) text after _ _ _ _ run.0 past run.2 run.1,
    )
