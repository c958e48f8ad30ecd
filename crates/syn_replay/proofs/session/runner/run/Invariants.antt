use Rattle.syn_replay.specs.Session.Streams.{state_of}
use Rattle.syn_replay.proofs.Walk.Received.{Leads}
use Rattle.syn_replay.proofs.session.runner.run.Given as goal

abbrev pub invariant-loop-command : goal.invariant-loop-command
invariant-loop-command g l =
    Leads g.R.Receiver.receives (state_of l.fn.streams) l.fn.receiver l.commands
    (state_of l.streams) l.receiver l.command-index
