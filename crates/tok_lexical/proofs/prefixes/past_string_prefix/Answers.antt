use Rattle.tok_lexical.specs.Strings.{IsStringPrefix}
use Rattle.tok_lexical.proofs.Longest.{tries_found}
use Rattle.tok_lexical.proofs.StringPrefixes.{free_raw_start, raw_start_byte, raw_start_c}
use Rattle.tok_lexical.proofs.StringPrefixes.{raw_start_other}
use Rattle.tok_lexical.proofs.prefixes.past_string_prefix.Goals as goal

pub returns-then-first-eq98-clause-tries : goal.returns-then-first-eq98-clause-tries
returns-then-first-eq98-clause-tries c = tries_found IsStringPrefix _ _ free_raw_start
    (raw_start_byte _ _ c.in_ok-first.first _ c.in_ok-first.ensures.chars c.if-first-eq98.true
    c.past_prefixed.ensures.finds)

pub returns-then-first-eq99-clause-tries : goal.returns-then-first-eq99-clause-tries
returns-then-first-eq99-clause-tries c = tries_found IsStringPrefix _ _ free_raw_start
    (raw_start_c _ _ c.in_ok-first.first _ c.in_ok-first.ensures.chars c.if-first-eq99.true
    c.past_prefixed-then-first-eq99.ensures.finds)

pub returns-else-first-eq99-clause-tries : goal.returns-else-first-eq99-clause-tries
returns-else-first-eq99-clause-tries c = tries_found IsStringPrefix _ _ free_raw_start
    (raw_start_other _ _ c.in_ok-first.first _ c.in_ok-first.ensures.chars c.if-first-eq98.false
    c.if-first-eq99.false c.past_raw.ensures.finds)
