use Rattle.std.proofs.Common.{sym, ◌∙◌}
use Rattle.tok_lexical.proofs.WhiteSpace.{blanks_ascii_test, none_beyond}
use Rattle.tok_lexical.proofs.classes.past_ascii_whitespace.Goals as goal

pub past_run-requires : goal.past_run-requires
past_run-requires c = record { ascii = blanks_ascii_test }

pub returns-then-begins_beyond_ascii-clause-skips :
    goal.returns-then-begins_beyond_ascii-clause-skips
returns-then-begins_beyond_ascii-clause-skips c = none_beyond _
    (sym c.begins_beyond_ascii.ensures ∙ c.if-begins_beyond_ascii.true)
