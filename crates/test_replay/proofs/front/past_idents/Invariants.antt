use Rattle.syn_tokens.specs.Cursors.{place_of}
use Rattle.syn_tokens.specs.Progress.{remaining}
use Rattle.test_replay.proofs.front.past_idents.Given as goal

abbrev pub decreases-loop-next : goal.decreases-loop-next
decreases-loop-next l = remaining (place_of l.after)
