use Rattle.std.proofs.Common.{Ok, rules}
use Rattle.syn_tokens_c.proofs.Opening.{handed_error, handed_lexed}
use Rattle.syn_tokens_c.proofs.open.hand.Goals as goal

pub returns-in-Ok : goal.returns-in-Ok
returns-in-Ok c =
    handed_lexed c.args.lexed c.in-Ok.lexed (Ok c.lexed.result) c.hand_answer.result
    c.hand_answer.new.handle (search rules) c.lexed.ensures c.hand_answer.ensures

pub returns-in-Err-Refused : goal.returns-in-Err-Refused
returns-in-Err-Refused c =
    handed_error c.args.lexed c.in-Err-Refused.error c.rejected.result
    c.hand_answer-in-Err-Refused.result c.hand_answer-in-Err-Refused.new.handle (search rules)
    c.rejected.ensures c.hand_answer-in-Err-Refused.ensures
