use Rattle.std.proofs.Common.{rules, ◌∙◌, sym, ap₂, Ok}
use Rattle.std.specs.declared.alloc.AllocError.{AllocError}
use Rattle.tok_buffer.specs.Cursors.{place_of}
use Rattle.tok_buffer.specs.Order.{same_scope}
use Rattle.tok_buffer.proofs.Between.{cursor_place, ends_in_scope, visible_between}
use Rattle.tok_buffer.proofs.cursor.Cursor.tokens_up_to.Goals as goal

pub copy_up_to-requires : goal.copy_up_to-requires
copy_up_to-requires c =
    ends_in_scope c.in-Some-Some.from c.in-Some-Some.to
    (ap₂ (λ x y. same_scope (cursor_place x) (cursor_place y)) (sym c.in-Some-Some.is-0)
    (sym c.in-Some-Some.is-1) ∙ sym c.same_scope.ensures ∙ c.if-same_scope.true)

pub returns-then-same_scope-clause-visible : goal.returns-then-same_scope-clause-visible
returns-then-same_scope-clause-visible c =
    visible_between {E = AllocError} (place_of c.args.self) (place_of c.args.end)
    c.copy_up_to.result (search rules)

pub returns-clause-visible : goal.returns-clause-visible
returns-clause-visible c =
    visible_between {E = AllocError} (place_of c.args.self) (place_of c.args.end)
    (Ok c.new.result) (search rules)
