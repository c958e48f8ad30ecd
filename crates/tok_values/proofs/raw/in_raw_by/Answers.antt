use Rattle.std.proofs.Common.{◌∙◌, sym}
use Rattle.std.specs.Str.{chars}
use Rattle.tok_values.proofs.Fronts.{suffix_ends}
use Rattle.tok_values.proofs.RawStrings.{no_raw, no_raw_suffix, raw_found}
use Rattle.tok_values.proofs.raw.in_raw_by.Goals as goal

pub returns-then-not-begins_with-clause-value : goal.returns-then-not-begins_with-clause-value
returns-then-not-begins_with-clause-value c =
    no_raw _ (sym c.begins_with.ensures ∙ c.if-not-begins_with.true)

pub returns-then-not-is_suffix-clause-value : goal.returns-then-not-is_suffix-clause-value
returns-then-not-is_suffix-clause-value c =
    no_raw_suffix _
    (λ s. c.if-not-is_suffix.ensures (rw c.literal_suffix-suffix.ensures s))

pub front_of-requires : goal.front_of-requires
front_of-requires c = rw c.literal_suffix-suffix.ensures (suffix_ends (chars c.args.text.now))

pub returns-clause-value : goal.returns-clause-value
returns-clause-value c =
    raw_found _ _
    (rw c.literal_suffix-suffix.ensures at (sym c.front_of.ensures.chars))
    (rw c.literal_suffix-suffix.ensures at c.if-not-is_suffix.ensures) c.in_raw.result
    c.in_raw.ensures.value
