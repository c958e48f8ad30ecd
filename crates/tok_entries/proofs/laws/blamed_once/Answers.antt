use Rattle.tok_entries.proofs.Blamed.{none_denoted}
use Rattle.tok_entries.proofs.BlamedOnce.{blamed_once}
use Rattle.tok_entries.proofs.laws.blamed_once.Goals as goal

pub returns-clause-once : goal.returns-clause-once
returns-clause-once c = blamed_once

pub returns-clause-no_forest : goal.returns-clause-no_forest
returns-clause-no_forest c = λ es bs why named blamed f d. none_denoted blamed f d
