use Rattle.std.proofs.Common.{ap, sym}
use Rattle.tok_core.specs.Forest.{Forest, leaf}
use Rattle.tok_core.proofs.Facts.{concat-none}
use Rattle.tok_core.proofs.Appended.{then_tree}
use Rattle.tok_buffer.proofs.error.compile_error.write_segment.Goals as goal

pub returns : goal.returns
returns c =
    let old : Forest = c.args.tokens.now in
    let one = then_tree old old c.append.new.self _ _ _ (sym (concat-none old))
    c.in_ok-append.ensures.ok (ap leaf c.punct.ensures) in
    let two = then_tree old c.append.new.self c.append-2.new.self _ _ _ one
    c.in_ok-append-2.ensures.ok (ap leaf c.punct-2.ensures) in
    then_tree old c.append-2.new.self c.append-3.new.self _ _ _ two c.in_ok-append-3.ensures.ok
    (ap leaf c.in_ok-identifier.ensures)
