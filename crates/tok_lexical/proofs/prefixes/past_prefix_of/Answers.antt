use Rattle.tok_lexical.specs.Strings.{IsPrefixOf}
use Rattle.tok_lexical.specs.declared.contents.Contents.TheVariants.{Text, Bytes, C}
use Rattle.tok_lexical.proofs.Longest.{tries_found}
use Rattle.tok_lexical.proofs.StringPrefixes.{free_prefix_of}
use Rattle.tok_lexical.proofs.prefixes.past_prefix_of.Goals as goal

pub returns-in-Text-clause-tries : goal.returns-in-Text-clause-tries
returns-in-Text-clause-tries c =
    rw c.in-Text.is (tries_found (IsPrefixOf Text) _ _ (free_prefix_of Text)
    c.past_raw.ensures.finds)

pub returns-in-Bytes-clause-tries : goal.returns-in-Bytes-clause-tries
returns-in-Bytes-clause-tries c =
    rw c.in-Bytes.is (tries_found (IsPrefixOf Bytes) _ _ (free_prefix_of Bytes)
    c.past_prefixed_by.ensures.finds)

pub returns-in-C-clause-tries : goal.returns-in-C-clause-tries
returns-in-C-clause-tries c =
    rw c.in-C.is (tries_found (IsPrefixOf C) _ _ (free_prefix_of C)
    c.past_prefixed_by-in-C.ensures.finds)
