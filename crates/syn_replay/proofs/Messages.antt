-- The message of an error depends on the place and the scope of its stream alone.
use Rattle.std.proofs.Common.{◌≡◌, ℕ, List}
use Rattle.syn_parse.specs.ErrorWords.{punctuation_message}
use Rattle.syn_parse.specs.State.{State, fresh}
use Rattle.syn_replay.specs.Kinds.{Kind}
use Rattle.syn_replay.specs.Kinds.{kind_missing}
use Rattle.std.proofs.Common.{arith}

pub separator_there : (text : List ℕ) (s : State)
    → punctuation_message text s ≡ punctuation_message text (fresh s.place s.scope_span)
separator_there a0 a1 = grind arith

pub message_there : (kind : Kind) (s : State)
    → kind_missing kind s ≡ kind_missing kind (fresh s.place s.scope_span)
message_there a0 a1 = grind (arith, separator_there)
