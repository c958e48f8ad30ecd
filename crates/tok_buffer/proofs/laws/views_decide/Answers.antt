use Rattle.tok_buffer.proofs.View.Laws.{views_decide, views_tell_scopes, views_tell_delimiters}
use Rattle.tok_buffer.proofs.View.Laws.{starts_agree}
use Rattle.tok_buffer.proofs.laws.views_decide.Goals as goal

pub returns-clause-calls : goal.returns-clause-calls
returns-clause-calls c = views_decide

pub returns-clause-scopes : goal.returns-clause-scopes
returns-clause-scopes c = views_tell_scopes

pub returns-clause-delimiters : goal.returns-clause-delimiters
returns-clause-delimiters c = views_tell_delimiters

pub returns-clause-starts : goal.returns-clause-starts
returns-clause-starts c = starts_agree
