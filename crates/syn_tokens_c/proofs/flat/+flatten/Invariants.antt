use Rattle.std.proofs.Common.{◌≡◌, ◌+◌, ◌*◌, ◌≤◌, ◌++◌, length}
use Rattle.std.specs.Prelude.{map}
use Rattle.arguments.specs.Forms.{argument_form, forms, list_form}
use Rattle.syn_tokens_c.specs.Flats.{flat, flats}
use Rattle.syn_tokens_c.proofs.flat.+flatten.Given as goal

abbrev pub decreases-push_all : goal.decreases-push_all
decreases-push_all l = 2 * length (flats (forms (list_form l.list.now).0)) + 1

abbrev pub decreases-push_one : goal.decreases-push_one
decreases-push_one l = 2 * length (flat (argument_form l.argument.now))

abbrev pub invariant-push_all-loop-argument : goal.invariant-push_all-loop-argument
invariant-push_all-loop-argument l =
    (goal.iterator-push_all-loop-argument).can_next l.argument-iterator
    × (goal.iterator-push_all-loop-argument).is_finite l.argument-iterator
    × (l.flats.items ++ flats (forms (map argument_form l.argument-iterator))
    ≡ l.initial.flats.items ++ flats (forms (list_form l.fn.list).0))
    × (length (flats (forms (map argument_form l.argument-iterator)))
    ≤ length (flats (forms (list_form l.fn.list).0)))
