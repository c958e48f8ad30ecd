use Rattle.std.proofs.Common.{rules}
use Rattle.std.specs.Prelude.{alloc_error, false, true}
use Rattle.syn_parse.specs.declared.fault.Fault.TheVariants.{Memory}
use Rattle.syn_parse.proofs.Repeats.{left-tests}
use Rattle.syn_parse.specs.Takings.{lower, told}
use Rattle.syn_choices.proofs.CallLoops.{loop-ended, loop-lost, loop-refused, loop-stuck}
use Rattle.syn_choices.proofs.CallLoops.{turned-more, turned-none}
use Rattle.syn_choices.proofs.ext.ParseBufferParseBufferExt.parse_until_end_with.Goals as goal

pub loop-start-init : goal.loop-start-init
loop-start-init g c = search (rules, turned-none)

pub returns-in_err-next_value : goal.returns-in_err-next_value
returns-in_err-next_value g c =
    let h = loop-refused c.loop-start.invariant (search rules) _ c.next_value.new.parser
    c.next_value.new.input
    (λ value less. left-tests (told (λ v. v) value (lower less)) c.loop-start.self true
    (search rules))
    c.in_err-next_value.ensures c.from_residual.result (search rules) in
    record { calls = h.0; takes = h.1 }

pub returns-in_err-turns : goal.returns-in_err-turns
returns-in_err-turns g c =
    let h = loop-stuck c.loop-start.invariant (search rules) _ c.next_value.new.parser
    c.next_value.new.input _ _ c.in_ok-next_value.ensures c.cursor-start.ensures
    c.in_err-turns.ensures.0 c.in_err-turns.ensures.1 c.from_residual-in_err-turns.result
    (search rules) in
    record { calls = h.0; takes = h.1 }

pub returns-in_err-push-clause-calls : goal.returns-in_err-push-clause-calls
returns-in_err-push-clause-calls g c =
    loop-lost c.loop-start.invariant (search rules) _ c.next_value.new.parser
    c.next_value.new.input (Memory alloc_error) c.in_ok-next_value.ensures tt
    c.from_residual-in_err-push.result (search rules)

pub loop-start-preserved : goal.loop-start-preserved
loop-start-preserved g c =
    turned-more c.loop-start.invariant (search rules) _ c.next_value.new.parser
    c.next_value.new.input _ _
    (λ value less. left-tests (told (λ v. v) value (lower less)) c.loop-start.self true
    (search rules))
    c.in_ok-next_value.ensures c.cursor-start.ensures c.in_ok-turns.ensures.0
    c.in_ok-turns.ensures.1 c.in_ok-turns.ensures.2 c.push.new.self.items (search rules)

pub returns : goal.returns
returns g c =
    let h = loop-ended c.loop-start.values c.loop-start.invariant (search rules)
    (λ value less. left-tests (told (λ v. v) value (lower less)) c.loop-start.self false
    (search rules)) in
    record { calls = h.0; takes = h.1 }
