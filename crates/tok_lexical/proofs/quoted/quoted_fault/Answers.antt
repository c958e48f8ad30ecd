use Rattle.std.proofs.Common.{[], ◌∷◌}
use Rattle.tok_lexical.specs.QuotedFaults.{byte, character, raw, string}
use Rattle.tok_lexical.specs.declared.contents.Contents.TheVariants.{Text, Bytes, C}
use Rattle.tok_lexical.proofs.quoted.quoted_fault.Goals as goal

pub string_fault-requires : goal.string_fault-requires
string_fault-requires c = (34 ∷ [], c.in-Some.ensures.chars)

pub returns-in-Some-clause-is : goal.returns-in-Some-clause-is
returns-in-Some-clause-is c = let e = c.in-Some.ensures.chars in
    string Text _ e (c.string_fault.ensures.is (34 ∷ []) e)

pub string_fault-requires-in-Some-past_pair : goal.string_fault-requires-in-Some-past_pair
string_fault-requires-in-Some-past_pair c = (98 ∷ 34 ∷ [], c.in-Some-past_pair.ensures.chars)

pub returns-in-Some-past_pair-clause-is : goal.returns-in-Some-past_pair-clause-is
returns-in-Some-past_pair-clause-is c = let e = c.in-Some-past_pair.ensures.chars in
    string Bytes _ e (c.string_fault-in-Some-past_pair.ensures.is (98 ∷ 34 ∷ []) e)

pub string_fault-requires-in-Some-past_pair-2 : goal.string_fault-requires-in-Some-past_pair-2
string_fault-requires-in-Some-past_pair-2 c = (
  99 ∷ 34 ∷ [],
  c.in-Some-past_pair-2.ensures.chars,
)

pub returns-in-Some-past_pair-2-clause-is : goal.returns-in-Some-past_pair-2-clause-is
returns-in-Some-past_pair-2-clause-is c = let e = c.in-Some-past_pair-2.ensures.chars in
    string C _ e (c.string_fault-in-Some-past_pair-2.ensures.is (99 ∷ 34 ∷ []) e)

pub character_fault-requires : goal.character_fault-requires
character_fault-requires c = (39 ∷ [], c.in-Some-past_char.ensures.chars)

pub returns-in-Some-past_char-clause-is : goal.returns-in-Some-past_char-clause-is
returns-in-Some-past_char-clause-is c = let e = c.in-Some-past_char.ensures.chars in
    character _ e (c.character_fault.ensures.is (39 ∷ []) e)

pub byte_fault-requires : goal.byte_fault-requires
byte_fault-requires c = (98 ∷ 39 ∷ [], c.in-Some-past_pair-3.ensures.chars)

pub returns-in-Some-past_pair-3-clause-is : goal.returns-in-Some-past_pair-3-clause-is
returns-in-Some-past_pair-3-clause-is c = let e = c.in-Some-past_pair-3.ensures.chars in
    byte _ e (c.byte_fault.ensures.is (98 ∷ 39 ∷ []) e)

pub returns-clause-is : goal.returns-clause-is
returns-clause-is c =
    let (kind, opens) = c.in_ok-hashes.ensures.opens in raw kind _ _ opens c.raw_fault.ensures.is
