use Rattle.std.proofs.Common.{rules, ap, ◌∙◌}
use Rattle.tok_core.specs.Forest.{AppendsFront, concat}
use Rattle.tok_core.proofs.Facts.{joined_assoc}
use Rattle.syn_punctuated.proofs.Writes.{on_ok, on_err, front_first, front_second}
use Rattle.syn_punctuated.proofs.print.write_pair.Goals as goal

pub returns-in_err-to_tokens-clause-err : goal.returns-in_err-to_tokens-clause-err
returns-in_err-to_tokens-clause-err g c =
    let value = g.T.ToTokens.printed c.args.value.now in
    let separator = g.P.ToTokens.printed c.args.separator.now in
    let stopped : AppendsFront c.args.tokens.now (concat value separator) c.to_tokens.new.tokens =
    front_first c.args.tokens.now value separator c.to_tokens.new.tokens
    c.in_err-to_tokens.ensures.err in
    search rules

pub returns-clause-ok : goal.returns-clause-ok
returns-clause-ok g c =
    let value = g.T.ToTokens.printed c.args.value.now in
    let separator = g.P.ToTokens.printed c.args.separator.now in
    on_ok c.to_tokens-2.result (λ done. done
    ∙ ap (λ all. concat all separator) c.in_ok-to_tokens.ensures.ok
    ∙ joined_assoc c.args.tokens.now value separator) c.to_tokens-2.ensures.ok

pub returns-clause-err : goal.returns-clause-err
returns-clause-err g c =
    let value = g.T.ToTokens.printed c.args.value.now in
    let separator = g.P.ToTokens.printed c.args.separator.now in
    on_err c.to_tokens-2.result
    (λ stopped. front_second c.args.tokens.now value c.to_tokens.new.tokens separator
    c.to_tokens-2.new.tokens c.in_ok-to_tokens.ensures.ok stopped) c.to_tokens-2.ensures.err
