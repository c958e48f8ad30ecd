use Rattle.tok_entries.proofs.Showing as lemma
use Rattle.tok_entries.proofs.laws.entries_show.Goals as goal

pub returns : goal.returns
returns c = lemma.entries_show
