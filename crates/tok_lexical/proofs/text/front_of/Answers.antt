use Rattle.std.proofs.Common.{arith}
use Rattle.tok_lexical.proofs.Texts.{cut_length, cut_boundary, cut_chars, cut_len}
use Rattle.tok_lexical.proofs.Texts.{cut_front, front_chars}
use Rattle.tok_lexical.proofs.text.front_of.Goals as goal

pub overflow_sub-text : goal.overflow_sub-text
overflow_sub-text c =
    omega (arith, cut_length _ _ c.requires.0 c.utf8.text c.utf8.rest c.requires.1)

pub split_at-requires : goal.split_at-requires
split_at-requires c = cut_boundary _ _ c.requires.0 c.utf8.text c.utf8.rest c.requires.1

pub returns-clause-chars : goal.returns-clause-chars
returns-clause-chars c = cut_chars _ _ c.requires.0 _ c.utf8.text c.utf8.rest c.requires.1
    c.split_at.ensures.front

pub returns-clause-len : goal.returns-clause-len
returns-clause-len c = cut_len _ _ c.requires.0 c.split_at.result.0.now c.utf8.text c.utf8.rest
    c.requires.1 c.split_at.ensures.front_len

pub returns-clause-bytes : goal.returns-clause-bytes
returns-clause-bytes c = λ front e. cut_front _ _ front _ c.utf8.text c.utf8.rest e
    c.split_at.ensures.front

pub returns-clause-is : goal.returns-clause-is
returns-clause-is c = λ front e. front_chars _ _ front _ e
    (cut_chars _ _ front _ c.utf8.text c.utf8.rest e c.split_at.ensures.front)
