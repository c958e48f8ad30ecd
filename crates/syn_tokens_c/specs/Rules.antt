-- The rules of a number.
use Rattle.std.specs.Prelude.{ℕ, ◌==◌, if◌then◌else◌, Option, None, Some}
use Rattle.syn_tokens_c.specs.Outcomes.{edition_of}
use Rattle.tok_lexical.specs.declared.edition.Edition.{Edition}
use Rattle.syn_tokens_c.specs.declared.rules.Rules as of
use Rattle.syn_tokens_c.specs.declared.rules.Rules.TheVariants.{Plain, Marked, Source}

-- the rules of a source of this edition, if there is one
abbrev pub source_of : Option Edition → Option of.Rules
source_of None = None
source_of (Some edition) = Some (Source edition)

-- 0 for the rules of `lex`, 1 for those of `lex_marked`, and a year for those of a source
abbrev pub rules_of : ℕ → Option of.Rules
rules_of number =
    if number == 0 then Some Plain
    else if number == 1 then Some Marked
    else source_of (edition_of number)
