use Rattle.tok_entries.proofs.Reading as lemma
use Rattle.tok_entries.proofs.laws.cursor_reads.Goals as goal

pub returns : goal.returns
returns c = lemma.reads_first
