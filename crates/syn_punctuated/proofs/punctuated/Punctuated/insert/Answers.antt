use Rattle.std.proofs.Common.{arith, ◌≤◌, length}
use Rattle.syn_punctuated.proofs.Inserts.{insert_in_front, insert_map}
use Rattle.syn_punctuated.proofs.WithValue.{values_at_most}
use Rattle.syn_punctuated.specs.Private.Boxes.{boxed_values}
use Rattle.syn_punctuated.proofs.punctuated.Punctuated.insert.Goals as goal

pub returns-in_ok-insert-clause-ok : goal.returns-in_ok-insert-clause-ok
returns-in_ok-insert-clause-ok g c =
    let list = c.args.self.now in
    let fits : c.args.index ≤ length list.inner.items = omega (arith, values_at_most list) in
    rw c.in_ok-insert.ensures.items
    (insert_in_front (λ pair. pair.0) list.inner.items (boxed_values list.last) c.args.index
    (c.args.value, c.default.result) fits)

pub returns-in_ok-insert-clause-within : goal.returns-in_ok-insert-clause-within
returns-in_ok-insert-clause-within g c =
    let list = c.args.self.now in
    let fits : c.args.index ≤ length list.inner.items = omega (arith, values_at_most list) in
    λ lt. (
      c.default.result,
      c.default.ensures,
      rw c.in_ok-insert.ensures.items
          (insert_map (λ pair. pair.1) list.inner.items c.args.index (
            c.args.value,
            c.default.result,
          ) fits),
    )
