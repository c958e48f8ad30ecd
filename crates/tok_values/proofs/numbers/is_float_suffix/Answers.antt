use Rattle.std.proofs.Common.{inl, inr}
use Rattle.tok_values.proofs.TypedNumbers.{float_suffix_bytes, float_suffix_chars}
use Rattle.tok_values.proofs.numbers.is_float_suffix.Goals as goal

pub returns-in-empty : goal.returns-in-empty
returns-in-empty c = float_suffix_chars c.args.suffix.now (inl c.in-empty.is-empty)

pub returns-in-empty-2 : goal.returns-in-empty-2
returns-in-empty-2 c = float_suffix_chars c.args.suffix.now (inr (inl c.in-empty.is-f32))

pub returns-in-empty-3 : goal.returns-in-empty-3
returns-in-empty-3 c = float_suffix_chars c.args.suffix.now (inr (inr c.in-empty.is-f64))

pub returns-in_default : goal.returns-in_default
returns-in_default c =
    λ is. elim (float_suffix_bytes c.args.suffix.now c.utf8.suffix is) [
      | inl none ↦ c.in_default.not-empty none
      | inr (inl single) ↦ c.in_default.not-f32 single
      | inr (inr double) ↦ c.in_default.not-f64 double
    ]
