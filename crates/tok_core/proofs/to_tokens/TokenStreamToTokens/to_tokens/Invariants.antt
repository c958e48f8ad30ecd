use Rattle.std.proofs.Common.{◌≡◌, take}
use Rattle.tok_core.specs.Forest.{concat}
use Rattle.tok_core.specs.Seen.{trees_of}
use Rattle.tok_core.proofs.to_tokens.TokenStreamToTokens.to_tokens.Given as goal

abbrev pub invariant-loop-next : goal.invariant-loop-next
invariant-loop-next l = l.tokens ≡ concat l.fn.tokens (trees_of (take l.next-index l.next-items))
