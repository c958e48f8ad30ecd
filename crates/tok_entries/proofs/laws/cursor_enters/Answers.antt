use Rattle.tok_entries.proofs.Reading as lemma
use Rattle.tok_entries.proofs.laws.cursor_enters.Goals as goal

pub returns : goal.returns
returns c = lemma.finds_invisible
