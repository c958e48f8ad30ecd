use Rattle.std.proofs.Common.{[], ◌∷◌}
use Rattle.tok_core.specs.Forest.{leaf}
use Rattle.tok_leaves.specs.Leaves.{ident_of}
use Rattle.syn_replay.proofs.Walk.Pieces.{value-pieces}
use Rattle.syn_replay.proofs.session.tokens.ident.Goals as goal

pub returns : goal.returns
returns c =
    value-pieces (λ v. leaf (ident_of v) ∷ []) _ c.args.input.now _ c.in_ok-ident.ident
    c.in_ok-ident-2.field-0 c.parse.new.input c.in_ok-ident.ensures.reads
    (c.in_ok-ident-2.ensures {u = tt})
