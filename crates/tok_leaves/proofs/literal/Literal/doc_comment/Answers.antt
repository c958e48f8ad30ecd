use Rattle.std.proofs.Common.{◌≡◌, ◌∙◌, ◌++◌, ap, arith, rules, string_bytes}
use Rattle.std.specs.Prelude.{codes}
use Rattle.std.specs.List.{flat_map}
use Rattle.tok_leaves.specs.Leaves.{literal}
use Rattle.std.specs.Str.{chars}
use Rattle.tok_leaves.specs.Quoting.{shown, shown_in_quotes}
use Rattle.tok_leaves.proofs.Plain.{shown_plain, plain_more}
use Rattle.tok_leaves.proofs.Quoting.{quoted_more, quoted_end}
use Rattle.tok_leaves.proofs.literal.Literal.doc_comment.Goals as goal

pub loop-c-init : goal.loop-c-init
loop-c-init c =
    let front = c.in_ok-rest.ensures.value in
    let opened : string_bytes c.push.new.self ++ flat_map shown (chars c.args.text.now)
    ≡ codes "\"" ++ flat_map shown (chars c.args.text.now) = search rules in (
      c.in_ok-rest.ensures.utf8,
      plain_more shown _ _ _ _ _ _ shown_plain front.1 front.2 opened,
    )

pub loop-c-preserved : goal.loop-c-preserved
loop-c-preserved c =
    let held = c.loop-c.invariant in
    let front = c.in_ok-rest-2.ensures.value in
    let past = quoted_more shown _ _ _ _ _ c.in-Some.c
    held.0 c.in-Some.ensures.bytes c.in_ok-push_shown.ensures held.1 in (
      c.in_ok-rest-2.ensures.utf8,
      plain_more shown _ _ _ _ _ _ shown_plain front.1 front.2 past,
    )

pub returns : goal.returns
returns c =
    let text = quoted_end shown _ _ _ _ _ c.in_default.ensures.chars c.loop-c.invariant.1
    (c.in_ok-push-2.ensures.ascii (omega arith)) c.in_ok-push-2.ensures.bytes in
    c.unchecked.ensures ∙ ap (λ w. literal w c.call_site.result) (c.in_ok-text.ensures ∙ text)
    ∙ ap (literal (shown_in_quotes (chars c.args.text.now))) c.call_site.ensures
