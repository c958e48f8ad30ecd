use Rattle.std.proofs.Common.{rules, arith, ◌∙◌, ap, sym, subst, get_or}
use Rattle.tok_core.specs.Forest.{AppendsFront, Forest, concat}
use Rattle.tok_core.proofs.Facts.{concat-none, joined_assoc}
use Rattle.syn_punctuated.specs.Lists.{values_of, separators_of}
use Rattle.syn_punctuated.specs.Printed.{by_turns}
use Rattle.syn_punctuated.proofs.Writes.{on_ok, on_err, front_second, pairs_written, last_written}
use Rattle.syn_punctuated.proofs.Writes.{last_follows, list_written, pairs_all, pairs_more, pairs_stop}
use Rattle.syn_punctuated.proofs.print.PunctuatedToTokens.to_tokens.Goals as goal

pub loop-pair-init : goal.loop-pair-init
loop-pair-init g c = sym (concat-none c.args.tokens.now)

pub returns-in_err-write_pair-clause-err : goal.returns-in_err-write_pair-clause-err
returns-in_err-write_pair-clause-err g c =
    let value = g.T.ToTokens.printed in
    let separator = g.P.ToTokens.printed in
    let list = c.args.self.now in
    let stopped : AppendsFront c.args.tokens.now
    (by_turns value separator (values_of list) (separators_of list)) c.write_pair.new.tokens =
    pairs_stop value separator c.args.tokens.now c.loop-pair.tokens c.write_pair.new.tokens list
    c.loop-pair.pair-index c.pair-item.result (omega arith) (c.pair-item.is
    ∙ ap (λ ps. get_or ps c.loop-pair.pair-index c.pair-item.result)
    c.deref-pair-items.ensures.value) c.loop-pair.invariant c.in_err-write_pair.ensures.err in
    search rules

pub loop-pair-preserved : goal.loop-pair-preserved
loop-pair-preserved g c =
    pairs_more g.T.ToTokens.printed g.P.ToTokens.printed c.args.tokens.now c.loop-pair.tokens
    c.write_pair.new.tokens c.args.self.now.inner.items c.loop-pair.pair-index c.pair-item.result
    (omega arith) (c.pair-item.is
    ∙ ap (λ ps. get_or ps c.loop-pair.pair-index c.pair-item.result)
    c.deref-pair-items.ensures.value) c.loop-pair.invariant c.in_ok-write_pair.ensures.ok

pub returns-in-Some-clause-ok : goal.returns-in-Some-clause-ok
returns-in-Some-clause-ok g c =
    let value = g.T.ToTokens.printed in
    let separator = g.P.ToTokens.printed in
    let list = c.args.self.now in
    let pairs = pairs_written value separator list.inner.items in
    let before = pairs_all value separator c.args.tokens.now c.loop-pair.tokens list.inner.items
    c.loop-pair.pair-index (omega arith) c.loop-pair.invariant in
    let all = last_follows value separator list _ _ c.in-Some.is c.as_ref.ensures in
    on_ok c.to_tokens.result (λ done. done ∙ ap (λ f. concat f (value c.as_ref.result.now)) before
    ∙ joined_assoc c.args.tokens.now pairs (value c.as_ref.result.now)
    ∙ ap (concat c.args.tokens.now) (sym all)) c.to_tokens.ensures.ok

pub returns-in-Some-clause-err : goal.returns-in-Some-clause-err
returns-in-Some-clause-err g c =
    let value = g.T.ToTokens.printed in
    let separator = g.P.ToTokens.printed in
    let list = c.args.self.now in
    let pairs = pairs_written value separator list.inner.items in
    let before = pairs_all value separator c.args.tokens.now c.loop-pair.tokens list.inner.items
    c.loop-pair.pair-index (omega arith) c.loop-pair.invariant in
    let all = last_follows value separator list _ _ c.in-Some.is c.as_ref.ensures in
    on_err c.to_tokens.result
    (λ stopped. subst (λ (f : Forest). AppendsFront c.args.tokens.now f c.to_tokens.new.tokens)
    (sym all) (front_second c.args.tokens.now pairs c.loop-pair.tokens
    (value c.as_ref.result.now) c.to_tokens.new.tokens before stopped)) c.to_tokens.ensures.err

pub returns-in-None-clause-ok : goal.returns-in-None-clause-ok
returns-in-None-clause-ok g c =
    let value = g.T.ToTokens.printed in
    let separator = g.P.ToTokens.printed in
    let list = c.args.self.now in
    let pairs = pairs_written value separator list.inner.items in
    let before = pairs_all value separator c.args.tokens.now c.loop-pair.tokens list.inner.items
    c.loop-pair.pair-index (omega arith) c.loop-pair.invariant in
    before ∙ ap (concat c.args.tokens.now)
    (sym (list_written value separator list
    ∙ ap (λ last. concat pairs (last_written value separator last)) c.in-None.is
    ∙ concat-none pairs))
