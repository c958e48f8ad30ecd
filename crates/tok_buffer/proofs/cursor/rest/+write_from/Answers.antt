use Rattle.std.proofs.Common.{◌≡◌, ◌∙◌, ◌++◌, ℕ, List, [], false}
use Rattle.std.proofs.Common.{append_assoc, refl, ap, arith, rules}
use Rattle.std.proofs.Output.{has_written_append}
use Rattle.std.proofs.lemmas.Grind.{put_four}
use Rattle.std.proofs.lemmas.List.{append-nil}
use Rattle.tok_core.specs.Forest.{leaf}
use Rattle.tok_core.specs.Text.{text, text_after, space}
use Rattle.tok_leaves.specs.Leaves.{leaf_text}
use Rattle.tok_lexical.specs.Delimiters.{opening}
use Rattle.tok_buffer.specs.Private.Layout.{leaf_in}
use Rattle.tok_buffer.specs.Private.Steps.{ahead_place}
use Rattle.tok_buffer.specs.Rest.{rest}
use Rattle.tok_buffer.proofs.Rests.{rest_done, rest_front, rest_group}
use Rattle.tok_buffer.proofs.Steps.{ahead_at}
use Rattle.tok_buffer.proofs.cursor.rest.+write_from.Goals as goal

leaf_written : (done space mine rest : List ℕ) → (done ++ (space ++ mine)) ++ rest ≡ done
    ++ (space ++ (mine ++ rest))
leaf_written done space mine rest = simp append_assoc

group_written : (done space front inside close rest : List ℕ) →
    (done ++ ((space ++ front) ++ (inside ++ close))) ++ rest ≡ done
    ++ (space ++ ((front ++ (inside ++ close)) ++ rest))
group_written done space front inside close rest = simp append_assoc

pub loop-ahead-init : goal.loop-ahead-init
loop-ahead-init g t c =
    let n = c.new-ahead.ensures in
    let b = c.args.buffer.now in
    let here = ahead_at c.new-ahead.result b c.args.from c.args.scope n.buffer n.position n.scope in
    record {
      scope = n.scope;
      later = omega (arith, n.position);
      written = λ plain. ([], search rules, ap (λ z. text (rest z)) here);
    }

pub loop-ahead-preserved-in-Leaf : goal.loop-ahead-preserved-in-Leaf
loop-ahead-preserved-in-Leaf g t c =
    let i = c.loop-ahead.invariant in
    let e = c.in-Leaf.ensures in
    let l = leaf_in c.in-Leaf.leaf in
    let b = c.loop-ahead.is_glued in
    let here = rest_front c.loop-ahead.ahead c.in-Leaf.after 1 (leaf l) e.0 e.1 in
    record {
      scope = e.1.scope ∙ i.scope;
      later = omega (arith, i.later, e.1.position);
      written =
          λ plain.
          let (done, wrote, more) = i.written plain in
          let one = c.write_leaf.ensures wrote.plain (search rules) in (
            done ++ (space b ++ leaf_text l),
            has_written_append _ _ _ _ _ _ wrote one,
            rw (leaf_written, c.is_joint-is_glued.ensures) (rw here at more),
          );
    }

pub loop-ahead-preserved-in-Group : goal.loop-ahead-preserved-in-Group
loop-ahead-preserved-in-Group g t c =
    let i = c.loop-ahead.invariant in
    let f = c.in-Group.ensures in
    let o = c.in-Group.group.opening.now in
    let b = c.loop-ahead.is_glued in
    let inside = text (rest (ahead_place c.in-Group.group.inside)) in
    let after = text_after false (rest (ahead_place c.in-Group.group.after)) in
    record {
      scope = f.after.scope ∙ i.scope;
      later = omega (arith, i.later, f.after.position);
      written =
          λ plain.
          let (done, wrote, more) = i.written plain in
          let one = c.write_opening.ensures wrote.plain (search rules) in
          let two = c.write_from.ensures one.plain (search rules) in
          let three = c.write_str.ensures.writes two.plain (search rules) in
          let last = c.closing.result.now in (
            done ++ ((space b ++ opening o.delimiter) ++ (inside ++ last)),
            put_four _ _ _ _ _ _ _ _ _ _ _ wrote one two three refl,
            rw (group_written, c.closing.ensures)
                (rw (rest_group c.loop-ahead.ahead c.in-Group.group f) at more),
          );
    }

pub returns : goal.returns
returns g t c =
    λ plain ok.
    let a = c.loop-ahead.ahead in
    let (done, wrote, more) = c.loop-ahead.invariant.written plain in
    let empty = rest_done a.buffer.now.number a.buffer.now.forest a.position a.scope a.within
    c.loop-ahead-test.false in
    rw (rw (empty, append-nil) at more) at wrote
