use Rattle.tok_lexical.proofs.QuotedFaults.{cut_further}
use Rattle.tok_lexical.proofs.quoted.character_fault.Goals as goal

pub bytes_before-requires : goal.bytes_before-requires
bytes_before-requires c = (
  _,
  cut_further _ _ _ _ _ c.requires.1 c.in-Some.ensures.finds.1,
)
