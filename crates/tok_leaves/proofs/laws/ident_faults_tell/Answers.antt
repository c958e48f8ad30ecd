use Rattle.tok_leaves.proofs.IdentFaults.{tell_characters, tell_identifiers, tell_raw_forms}
use Rattle.tok_leaves.proofs.laws.ident_faults_tell.Goals as goal

pub returns-clause-identifiers : goal.returns-clause-identifiers
returns-clause-identifiers c = tell_identifiers

pub returns-clause-raw_forms : goal.returns-clause-raw_forms
returns-clause-raw_forms c = tell_raw_forms

pub returns-clause-characters : goal.returns-clause-characters
returns-clause-characters c = tell_characters
