use Rattle.std.proofs.Common.{◌≡◌, ◌∙◌, sym, true, refl}
use Rattle.std.specs.Str.{chars}
use Rattle.tok_lexical.specs.Starts.{begins_punct}
use Rattle.tok_lexical.specs.declared.start.Start.TheVariants as start
use Rattle.tok_lexical.proofs.First.{decides_one}
use Rattle.tok_lexical.proofs.Starts.{punct_starts}
use Rattle.tok_lexical.proofs.rule.past_told_punct.Goals as goal

pub returns-clause-told : goal.returns-clause-told
returns-clause-told c =
    let told : begins_punct (chars c.args.text.now) ≡ true =
    sym c.begins_punct.ensures ∙ c.if-not-begins_punct.false in (
      told,
      λ mode. decides_one mode c.in_ok-rest.field-0-0 _ _ c.in_ok-rest.ensures.chars
          start.Punct refl
          (punct_starts c.in_ok-rest.field-0-0 (rw c.in_ok-rest.ensures.chars at told)),
    )
