use Rattle.syn_punctuated.proofs.Hashes.{list_hash}
use Rattle.syn_punctuated.proofs.laws.lists_hash_all.Goals as goal

pub returns : goal.returns
returns g c = list_hash g.T.Hash.hash_input g.P.Hash.hash_input
