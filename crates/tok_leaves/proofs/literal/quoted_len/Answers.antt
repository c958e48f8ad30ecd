use Rattle.std.proofs.Common.{◌∙◌, ap, arith, count_by}
use Rattle.tok_leaves.specs.Private.Plain.{has_escape}
use Rattle.tok_leaves.proofs.Plain.{escapes_counted}
use Rattle.tok_leaves.proofs.Quoting.{quoted_length}
use Rattle.tok_leaves.proofs.literal.quoted_len.Goals as goal

pub returns : goal.returns
returns c = λ few.
    let escapes = c.count_failing.ensures ∙ escapes_counted c.as_bytes.result.now
    ∙ ap (count_by has_escape) c.as_bytes.ensures.value in
    let all = quoted_length c.args.text.now c.utf8.text in
    omega (arith, few, escapes, all, c.saturating_add.ensures, c.saturating_add-2.ensures)
