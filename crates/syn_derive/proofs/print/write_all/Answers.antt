use Rattle.std.proofs.Common.{◌∙◌, ap, arith, rules, sym}
use Rattle.std.proofs.lemmas.List.{take_all}
use Rattle.tok_core.specs.Forest.{AppendsFront, concat}
use Rattle.tok_core.proofs.Facts.{concat-none}
use Rattle.syn_derive.specs.Printing.{all_trees}
use Rattle.syn_derive.proofs.Writes.{all_more, all_stop}
use Rattle.syn_derive.proofs.print.write_all.Goals as goal

pub loop-value-init : goal.loop-value-init
loop-value-init g c = sym (concat-none c.args.tokens.now)

pub returns-in_err-to_tokens-clause-err : goal.returns-in_err-to_tokens-clause-err
returns-in_err-to_tokens-clause-err g c =
    let stopped : AppendsFront c.args.tokens.now
    (all_trees g.T.ToTokens.printed c.args.values.now) c.to_tokens.new.tokens =
    all_stop g.T.ToTokens.printed c.args.tokens.now c.loop-value.tokens c.to_tokens.new.tokens
    c.args.values.now c.loop-value.value-index c.value-item.result c.loop-value-test.true
    c.value-item.is c.loop-value.invariant c.in_err-to_tokens.ensures.err in
    search rules

pub loop-value-preserved : goal.loop-value-preserved
loop-value-preserved g c =
    all_more g.T.ToTokens.printed c.args.tokens.now c.loop-value.tokens c.to_tokens.new.tokens
    c.args.values.now c.loop-value.value-index c.value-item.result c.loop-value-test.true
    c.value-item.is c.loop-value.invariant c.in_ok-to_tokens.ensures.ok

pub returns-clause-ok : goal.returns-clause-ok
returns-clause-ok g c =
    c.loop-value.invariant
    ∙ ap (λ xs. concat c.args.tokens.now (all_trees g.T.ToTokens.printed xs))
    (take_all c.loop-value.value-index c.args.values.now (omega arith))
