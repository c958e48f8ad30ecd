use Rattle.tok_lexical.proofs.RawStrings.{same_short, same_apart, same_more}
use Rattle.tok_lexical.proofs.raw.past_same.Goals as goal

pub returns-in_default-next_char-clause-chars : goal.returns-in_default-next_char-clause-chars
returns-in_default-next_char-clause-chars c = let i = c.loop-wanted.invariant.2 in
    same_short _ _ _ _ _ i.0 _ i.1 i.2 c.in-Some.ensures.chars
    c.in_default-next_char.ensures.chars

pub returns-then-c-wanted-clause-chars : goal.returns-then-c-wanted-clause-chars
returns-then-c-wanted-clause-chars c = let i = c.loop-wanted.invariant.2 in
    same_apart _ _ _ _ _ i.0 _ i.1 i.2 c.in-Some.ensures.chars _ _
    c.in-Some-next_char.ensures.chars c.if-c-wanted.true

pub loop-wanted-preserved : goal.loop-wanted-preserved
loop-wanted-preserved c = let i = c.loop-wanted.invariant.2 in (
  c.in-Some-next_char.ensures.utf8,
  c.in-Some.ensures.utf8,
  same_more _ _ _ _ _ i.0 _ i.1 i.2
      c.in-Some.ensures.chars _ _ c.in-Some-next_char.ensures.chars c.if-c-wanted.false,
)
