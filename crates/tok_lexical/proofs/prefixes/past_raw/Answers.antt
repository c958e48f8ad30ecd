use Rattle.tok_lexical.specs.Strings.{IsHashes}
use Rattle.tok_lexical.proofs.Longest.{finds_after}
use Rattle.tok_lexical.proofs.prefixes.past_raw.Goals as goal

pub returns-clause-finds : goal.returns-clause-finds
returns-clause-finds c = finds_after 114 IsHashes _ _ _ c.in_ok-rest.ensures.chars
    c.past_hashes.ensures.finds
