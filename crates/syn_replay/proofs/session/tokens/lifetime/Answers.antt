use Rattle.tok_leaves.specs.Leaves.{ident_of}
use Rattle.tok_core.specs.Seen.{lifetime_trees}
use Rattle.syn_replay.proofs.Walk.Pieces.{value-pieces}
use Rattle.syn_replay.proofs.session.tokens.lifetime.Goals as goal

pub returns : goal.returns
returns c =
    value-pieces (λ v. lifetime_trees v.apostrophe (ident_of v.ident)) _ c.args.input.now _
    c.in_ok-lifetime.lifetime c.in_ok-lifetime-2.field-0 c.parse.new.input
    c.in_ok-lifetime.ensures.reads (c.in_ok-lifetime-2.ensures {u = tt})
