use Rattle.std.proofs.Common.{rules, arith, ◌≡◌, ◌+◌, max, ℕ, ap, ◌∙◌, None, Some, Option}
use denote.Param.Weighed.{most}
use Rattle.std.specs.Global.{Vec, Box}
use Rattle.syn_punctuated.proofs.Depth.{deepest_value, most_values}
use Rattle.syn_punctuated.specs.declared.punctuated.Punctuated.{Punctuated}
use Rattle.test_lists.specs.declared.lists.nested.Argument.{Argument, size-Argument}
use Rattle.test_lists.specs.declared.lists.nested.Argument.{size_is-Argument}
use Rattle.test_lists.specs.declared.lists.nested.Value.{List, size-Value, the_lemmas}
use Rattle.test_lists.proofs.lists.nested.+has.Goals as goal

size-List-by : (inner : Vec (Argument × ℕ)) (last : Option (Box Argument))
    → let list : Punctuated Argument ℕ = record { inner = inner; last = last } in
    size-Value (List list) ≡ max (deepest_value size-Argument list) 0 + 1
size-List-by inner None = search (rules, the_lemmas)
size-List-by inner (Some last) = search (rules, the_lemmas)

-- how deep a list of arguments is
size-List : (list : Punctuated Argument ℕ)
    → size-Value (List list) ≡ max (deepest_value size-Argument list) 0 + 1
size-List list = size-List-by list.inner list.last

pub loop-item-init : goal.loop-item-init
loop-item-init t c =
    let list = c.in-List.list in
    let argument = size_is-Argument c.args.argument.now in
    let value = ap size-Value c.in-List.is ∙ size-List list in
    let deepest = most_values size-Argument list in
    let start = ap (most size-Argument) c.into_iter-item-iterator.ensures.into_iter_gives.0 in
    omega (arith, start, deepest, value, argument)

pub has-requires : goal.has-requires
has-requires t c =
    let first = ap (most size-Argument) c.in-Some.ensures.steps in
    (omega (arith, c.decreases, c.loop-item.invariant, first), tt)

pub loop-item-preserved : goal.loop-item-preserved
loop-item-preserved t c =
    let first = ap (most size-Argument) c.in-Some.ensures.steps in
    omega (arith, c.loop-item.invariant, first)
