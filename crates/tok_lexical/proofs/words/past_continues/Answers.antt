use Rattle.std.proofs.Common.{sym, ◌∙◌}
use Rattle.tok_lexical.proofs.Identifiers.{skips_ascii_continues, skips_more_continues}
use Rattle.tok_lexical.proofs.words.past_continues.Goals as goal

pub returns-then-begins_beyond_ascii : goal.returns-then-begins_beyond_ascii
returns-then-begins_beyond_ascii c = skips_more_continues _ _ _ c.past_rare_run-rest.ensures.skips
    c.past_any_continues.ensures

pub returns-else-begins_beyond_ascii : goal.returns-else-begins_beyond_ascii
returns-else-begins_beyond_ascii c = skips_ascii_continues _ _ c.past_rare_run-rest.ensures.skips
    (sym c.begins_beyond_ascii.ensures ∙ c.if-begins_beyond_ascii.false)
