use Rattle.std.proofs.Common.{rules}
use Rattle.std.specs.Str.{IsUtf8}
use Rattle.tok_entries.proofs.Steps.{utf8_texts}
use Rattle.entry_outcomes.proofs.intake.read_entries.Goals as goal

pub returns-in-Err-clause-refuses : goal.returns-in-Err-clause-refuses
returns-in-Err-clause-refuses c = λ f d.
    let right : IsUtf8 c.args.texts.now = rw d.1 (utf8_texts f d.2) in
    search rules
