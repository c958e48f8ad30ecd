use Rattle.std.proofs.Common.{inl}
use Rattle.syn_tokens_c.proofs.value.syn_tokens_value.Goals as goal

pub returns-in-Ok-read : goal.returns-in-Ok-read
returns-in-Ok-read c =
    let (same, utf8) = c.in-Ok.ensures.cases in
    let found = c.in-Ok-read.found in
    inl (
      utf8,
      (found, rw same at c.in-Ok-read.ensures, c.write.ensures),
    )
