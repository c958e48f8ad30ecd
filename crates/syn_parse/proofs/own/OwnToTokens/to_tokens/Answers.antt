use Rattle.std.proofs.Common.{arith, ◌∙◌, sym, ap, Err}
use Rattle.std.proofs.lemmas.Grind.{common_steps}
use Rattle.tok_core.specs.Forest.{leaf, no_trees}
use Rattle.tok_core.proofs.Facts.{concat-none}
use Rattle.tok_core.proofs.Fronts.{none_appended}
use Rattle.tok_leaves.specs.Leaves.{ident}
use Rattle.syn_parse.proofs.Owned.{nothing_if_refused, word_if_made}
use Rattle.syn_parse.proofs.own.OwnToTokens.to_tokens.Goals as goal

pub returns-in-Ok-clause-err : goal.returns-in-Ok-clause-err
returns-in-Ok-clause-err g c =
    let span = c.args.self.now.span in
    let e = rw c.text.ensures at (word_if_made c.text.result.now span c.new.result
    c.new.ensures.takes c.new.ensures.refuses
    (λ h. let k = sym c.in-Ok.is ∙ h in cc)) in
    rw e (none_appended c.append.result c.args.tokens.now (leaf (ident g.W.Word.text span)) no_trees
    c.append.new.self c.append.ensures.err)

pub returns-in-Err-Refused-clause-ok : goal.returns-in-Err-Refused-clause-ok
returns-in-Err-Refused-clause-ok g c = grind (arith, common_steps, nothing_if_refused, concat-none)

pub returns-in-Err-Memory-clause-err : goal.returns-in-Err-Memory-clause-err
returns-in-Err-Memory-clause-err g c =
    let span = c.args.self.now.span in
    let e = rw c.text.ensures at (word_if_made c.text.result.now span c.new.result
    c.new.ensures.takes c.new.ensures.refuses
    (λ h. let k = sym (c.in-Err-Memory.is ∙ ap Err c.in-Err-Memory.field-0-is) ∙ h in cc)) in
    (no_trees, leaf (ident g.W.Word.text span), no_trees, e, sym (concat-none c.args.tokens.now))
