use Rattle.tok_lexical.proofs.StringPrefixes.{hashes_more, hashes_over}
use Rattle.tok_lexical.proofs.prefixes.past_number_signs.Goals as goal

pub loop-after-preserved : goal.loop-after-preserved
loop-after-preserved c = let i = c.loop-after.invariant.1 in
    (c.in-Some.ensures.utf8, hashes_more _ _ _ i.0 i.1 i.2 c.in-Some.ensures.chars)

pub returns : goal.returns
returns c = let i = c.loop-after.invariant.1 in
    hashes_over _ _ i.0 i.1 i.2 c.in_default.ensures.chars
