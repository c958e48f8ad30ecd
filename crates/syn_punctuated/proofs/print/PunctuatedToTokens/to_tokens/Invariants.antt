use Rattle.std.proofs.Common.{◌≡◌, take}
use Rattle.tok_core.specs.Forest.{concat}
use Rattle.syn_punctuated.proofs.Writes.{pairs_written}
use Rattle.syn_punctuated.proofs.print.PunctuatedToTokens.to_tokens.Given as goal

abbrev pub invariant-loop-pair : goal.invariant-loop-pair
invariant-loop-pair g l =
    l.tokens ≡ concat l.fn.tokens
    (pairs_written g.T.ToTokens.printed g.P.ToTokens.printed (take l.pair-index l.self.inner.items))
