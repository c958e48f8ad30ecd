use Rattle.std.proofs.Common.{rules}
use Rattle.tok_entries.specs.Blames.{Blames}
use Rattle.tok_entries.specs.Denotes.{DenotesNone}
use Rattle.tok_entries.specs.Refusals.{OnDenied, OnRejected}
use Rattle.tok_entries.specs.declared.intake.fault.EntryFault.{EntryFault}
use Rattle.tok_entries.proofs.Blamed.{denied}
use Rattle.tok_entries.proofs.intake.read_entries.Goals as goal

pub returns-in_err-read_level-clause-refuses : goal.returns-in_err-read_level-clause-refuses
returns-in_err-read_level-clause-refuses g c =
    let es = c.args.entries.now in
    let bs = c.args.texts.now in
    let each : (fault : EntryFault) → OnRejected fault (Blames es bs)
    → OnDenied fault (DenotesNone es bs) = λ fault. denied fault es bs in
    search (rules, each)
