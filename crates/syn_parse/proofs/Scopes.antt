-- Scopes, and what is ahead after calls that put two streams together.
use Rattle.std.proofs.Common.{◌≡◌, arith, true}
use Rattle.std.proofs.lemmas.Bool.{and_parts, false≢true}
use Rattle.tok_buffer.specs.Order.{same_scope}
use Rattle.tok_buffer.specs.Place.{Place}
use Rattle.syn_parse.specs.State.{State, advanced}
use Rattle.syn_parse.specs.TreesAhead.{after_fork, ahead, scope_of}

-- places in one scope, and their scopes
pub one_scope : (p q : Place) → same_scope p q ≡ true → scope_of q ≡ scope_of p
one_scope p q h = grind (arith, false≢true, and_parts)

pub in_one_scope : (p q : Place) → scope_of q ≡ scope_of p → same_scope p q ≡ true
in_one_scope p q h = grind arith

pub advanced_ahead : (fork s : State) → ahead (advanced fork s) ≡ after_fork (ahead fork) (ahead s)
advanced_ahead fork s = grind arith
