use Rattle.std.proofs.Common.{rules}
use Rattle.std.specs.Prelude.{alloc_error, false, true}
use Rattle.syn_parse.proofs.Loopings.{loop-ended, loop-lost, loop-refused, loop-stuck, turned-more}
use Rattle.syn_parse.proofs.Loopings.{turned-none}
use Rattle.syn_parse.proofs.Repeats.{filled-keeps, left-tests}
use Rattle.syn_parse.specs.declared.fault.Fault.TheVariants.{Memory}
use Rattle.syn_parse.proofs.stream.ParseBuffer.parse_until_end.Goals as goal

pub loop-values-init : goal.loop-values-init
loop-values-init g c =
    turned-none _ _ _ _ _ c.args.self.now _ c.remaining-turns.result c.new-values.result.items
    c.cursor.ensures c.remaining-turns.ensures.visible c.remaining-turns.ensures.counts
    c.new-values.ensures.items

pub returns-in_err-push-clause-calls : goal.returns-in_err-push-clause-calls
returns-in_err-push-clause-calls g c =
    loop-lost c.loop-values.invariant (search rules) _ c.parse.new.self (Memory alloc_error)
    c.in_ok-parse.ensures.reads tt c.from_residual-in_err-push.result (search rules)

pub returns-in_err-parse : goal.returns-in_err-parse
returns-in_err-parse g c =
    let h = loop-refused c.loop-values.invariant (search rules) _ c.parse.new.self
    (left-tests g.T.Parse.takes c.loop-values.self true (search rules))
    c.in_err-parse.ensures.reads
    (filled-keeps g.T.Parse.takes c.loop-values.self c.parse.new.self _
    c.in_err-parse.ensures.takes)
    c.from_residual.result (search rules) in
    record { calls = h.0; takes = h.1 }

pub returns-in_err-turns : goal.returns-in_err-turns
returns-in_err-turns g c =
    let h = loop-stuck c.loop-values.invariant (search rules) _ c.parse.new.self _
    c.in_ok-parse.ensures.reads
    (filled-keeps g.T.Parse.takes c.loop-values.self c.parse.new.self _
    c.in_ok-parse.ensures.takes)
    c.in_err-turns.ensures.0 c.in_err-turns.ensures.1 c.from_residual-in_err-turns.result
    (search rules) in
    record { calls = h.0; takes = h.1 }

pub loop-values-preserved : goal.loop-values-preserved
loop-values-preserved g c =
    turned-more c.loop-values.invariant (search rules) _ c.parse.new.self _
    (left-tests g.T.Parse.takes c.loop-values.self true (search rules))
    c.in_ok-parse.ensures.reads
    (filled-keeps g.T.Parse.takes c.loop-values.self c.parse.new.self _
    c.in_ok-parse.ensures.takes)
    c.in_ok-turns.ensures c.push.new.self.items (search rules)

pub returns : goal.returns
returns g c =
    let h = loop-ended c.loop-values.values c.loop-values.invariant (search rules)
    (left-tests g.T.Parse.takes c.loop-values.self false (search rules)) in
    record { calls = h.0; takes = h.1 }
