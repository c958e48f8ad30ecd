use Rattle.tok_lexical.specs.Strings.{IsString}
use Rattle.tok_lexical.specs.declared.contents.Contents.TheVariants.{Bytes}
use Rattle.tok_lexical.proofs.Longest.{tries_after}
use Rattle.tok_lexical.proofs.strings.past_byte_string.Goals as goal

pub returns-clause-tries : goal.returns-clause-tries
returns-clause-tries c = tries_after 98 (IsString Bytes) _ _ _ c.in_ok-rest.ensures.chars
    c.past_string_of.ensures.tries
