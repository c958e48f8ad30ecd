use Rattle.std.proofs.Common.{◌≡◌, [], drop, map}
use Rattle.syn_replay.specs.Commands.{looked}
use Rattle.syn_replay.specs.Meanings.{look_of}
use Rattle.syn_replay.proofs.session.reads.look_ahead.Given as goal

abbrev pub invariant-loop-index : goal.invariant-loop-index
invariant-loop-index l = record {
  place : l.lookahead.place ≡ l.input.place;
  scope : l.lookahead.scope_span ≡ l.input.scope_span;
  rest : looked l.index (map look_of (drop l.index l.looks)) l.lookahead.missed l.input.place
      l.input.scope_span ≡ looked 0 (map look_of l.looks) [] l.input.place l.input.scope_span;
}
