use Rattle.std.proofs.Common.{◌++◌, [], append_assoc, rules}
use Rattle.std.specs.Prelude.{string_bytes}
use Rattle.std.proofs.lemmas.List.{append-nil}
use Rattle.tok_carets.proofs.Shows.{none_left, one_more}
use Rattle.tok_carets.proofs.source.Lookup.show_error.Goals as goal

pub loop-message-preserved : goal.loop-message-preserved
loop-message-preserved c = (
  search rules,
  λ rest h.
      let source = c.args.self.now.source.now in
      let one = string_bytes c.in_ok-one.one in
      let steps = c.in-Some.ensures.steps in
      let same = rw c.in_ok-message.was at steps.1.1 in
      let each = one_more source c.loop-message.level.now _ _ steps.0 c.in_ok-message.message
      c.span.result _ one rest steps.1.0 same c.as_str.ensures c.span.ensures
      c.in_ok-one.ensures h in
      rw (c.in_ok-push_str.ensures.bytes, c.as_str-in-loop-message.ensures.value, append_assoc)
      (c.loop-message.invariant.1 (one ++ rest) each),
)

pub returns : goal.returns
returns c =
    let source = c.args.self.now.source.now in
    let none = none_left source c.loop-message.level.now _ c.in-None.ensures.steps.0 in
    rw append-nil at (c.loop-message.invariant.1 [] none)
