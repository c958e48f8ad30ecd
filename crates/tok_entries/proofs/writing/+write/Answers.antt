use Rattle.std.proofs.Common.{◌≤◌, rules, ap, sym, ◌∙◌, arith, length, string_bytes, length-append}
use Rattle.tok_core.specs.Forest.{group, tree_span}
use Rattle.tok_core.specs.Seen.{tree_of, group_of}
use Rattle.tok_leaves.specs.Spans.{bounds_delimiter}
use Rattle.tok_core.specs.Weight.{weight, tree_weight}
use Rattle.tok_core.proofs.Trees.{weight_here}
use Rattle.tok_entries.specs.Entries.{texts}
use Rattle.tok_entries.proofs.Fillings.{fill_lays}
use Rattle.tok_entries.proofs.Fronts.{begins_then, on_err}
use Rattle.tok_entries.proofs.writing.+write.Goals as goal

pub write_entries-write_tree-requires : goal.write_entries-write_tree-requires
write_entries-write_tree-requires t c =
    let small : tree_weight (tree_of c.next-item.result) ≤ weight c.args.stream.now =
    weight_here c.trees-next-items.result.now c.loop-next.next-index c.next-item.result _
    c.trees-next-items.ensures c.loop-next-test.true c.next-item.is in
    search rules

pub write_tree-returns-in_ok-push-in-Group-2-clause-entries :
    goal.write_tree-returns-in_ok-push-in-Group-2-clause-entries
write_tree-returns-in_ok-push-in-Group-2-clause-entries t c =
    let xs = c.args.entries.now.items in
    fill_lays xs c.push-in-Group.new.self.items c.write_entries.new.entries.items
    c.push-in-Group-2.new.self.items c.edge.result c.edge-in-Group.result c.edge-closing.result
    c.delimiter-delimiter.result c.stream.result.now (tree_span (group_of c.in-Group.group))
    c.span_open-in-Group.result c.span_close.result (tree_of c.args.next.now)
    (length (string_bytes c.args.texts.now)) c.len-begin.result c.len-in-Group-2.result
    c.len-start.result c.len-in-Group.result
    (search rules) (search rules) (search rules) (search rules) (search rules)
    (omega (
      arith,
      c.len-in-Group-2.ensures,
      ap length c.in_ok-write_entries-in-Group.ensures.texts,
      length-append (string_bytes c.args.texts.now) (texts c.stream.result.now),
    )) (search rules)
    (search rules) (search rules) (search rules) (search rules) (ap tree_of c.in-Group.is
    ∙ ap (λ f. group (bounds_delimiter c.in-Group.group.bounds) f
    (tree_span (group_of c.in-Group.group))) (sym c.stream.ensures)
    ∙ ap (λ d. group d c.stream.result.now (tree_span (group_of c.in-Group.group)))
    (sym c.delimiter-delimiter.ensures))

pub write_entries-returns-in_err-write_tree-clause-entries_kept :
    goal.write_entries-returns-in_err-write_tree-clause-entries_kept
write_entries-returns-in_err-write_tree-clause-entries_kept t c =
    on_err c.from_residual.result
    (begins_then c.write_tree.new.entries.items c.loop-next.entries.items c.args.entries.now.items
    c.in_err-write_tree.ensures.entries_kept c.loop-next.invariant.2)

pub write_entries-returns-in_err-write_tree-clause-texts_kept :
    goal.write_entries-returns-in_err-write_tree-clause-texts_kept
write_entries-returns-in_err-write_tree-clause-texts_kept t c =
    on_err c.from_residual.result
    (begins_then (string_bytes c.write_tree.new.texts) (string_bytes c.loop-next.texts)
    (string_bytes c.args.texts.now) c.in_err-write_tree.ensures.texts_kept
    c.loop-next.invariant.3)
