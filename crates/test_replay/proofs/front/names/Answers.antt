use Rattle.syn_tokens.specs.ParseReads.{does}
use Rattle.test_replay.proofs.front.names.Goals as goal

pub loop-names-smaller : goal.loop-names-smaller
loop-names-smaller c =
    c.parses_go_on.ensures.idents.lowers c.loop-names.input c.in_ok-parse.field-0
    c.parse.new.self (does _ _ _ _ c.in_ok-parse.ensures.reads)
