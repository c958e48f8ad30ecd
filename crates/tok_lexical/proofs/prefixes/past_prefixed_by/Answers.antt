use Rattle.tok_lexical.specs.Strings.{IsPrefixed}
use Rattle.tok_lexical.proofs.Longest.{finds_after}
use Rattle.tok_lexical.proofs.prefixes.past_prefixed_by.Goals as goal

pub returns-clause-finds : goal.returns-clause-finds
returns-clause-finds c = finds_after c.args.letter IsPrefixed _ _ _ c.in_ok-rest.ensures.chars
    c.past_prefixed.ensures.finds
