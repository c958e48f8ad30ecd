use Rattle.std.proofs.Common.{◌≡◌, ◌∙◌, sym, true}
use Rattle.std.specs.Str.{chars}
use Rattle.tok_lexical.specs.Starts.{begins_letter}
use Rattle.tok_lexical.proofs.First.{decides_letter}
use Rattle.tok_lexical.proofs.Starts.{letter_starts}
use Rattle.tok_lexical.proofs.rule.past_told_identifier.Goals as goal

pub returns-clause-told : goal.returns-clause-told
returns-clause-told c =
    let told : begins_letter (chars c.args.text.now) ≡ true =
    sym c.begins_letter.ensures ∙ c.if-not-begins_letter.false in (
      told,
      λ mode. decides_letter mode c.in_ok-rest.field-0-0 _ _ c.in_ok-rest.ensures.chars _
          (letter_starts c.in_ok-rest.field-0-0 (rw c.in_ok-rest.ensures.chars at told))
          c.past_continues.ensures,
    )
