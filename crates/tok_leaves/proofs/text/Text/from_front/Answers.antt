use Rattle.std.proofs.Common.{◌≡◌, ◌∙◌, ◌≤◌, ap, length, take, rules}
use Rattle.tok_leaves.proofs.Kept.{wide}
use Rattle.tok_leaves.proofs.text.Text.from_front.Goals as goal

pub front-requires-clause-front : goal.front-requires-clause-front
front-requires-clause-front c =
    let long : 14 ≤ length c.args.text.now = search rules in
    let front : c.in-Some.bytes.now ≡ take 14 c.as_bytes.result.now = search rules in
    let short : length c.args.piece.now ≤ 14 = search rules in
    wide _ _ _ c.requires.0 c.utf8.piece c.utf8.text short long c.requires.1
    (front ∙ ap (take 14) c.as_bytes.ensures.value)
