use Rattle.std.proofs.Common.{◌∙◌, ap, arith, eq-eqb}
use Rattle.tok_core.specs.Forest.{no_trees}
use Rattle.tok_buffer.specs.Moves.{frames_at}
use Rattle.tok_buffer.specs.Place.{whole, frame, at}
use Rattle.tok_buffer.proofs.InScope.{root_settled}
use Rattle.tok_buffer.proofs.buffer.TokenBuffer.begin.Goals as goal

pub invariant_of-at : goal.invariant_of-at
unfolding frames_at
invariant_of-at c = record {
  in_buffer = omega (arith, c.last.ensures);
  within = eq-eqb _ _ (omega (arith, c.last.ensures));
  settled = root_settled (frame whole no_trees c.args.self.now.forest);
}

pub returns : goal.returns
unfolding frames_at
returns c =
    c.at.ensures ∙ ap
    (λ s. at c.args.self.now.number s 0 (frame whole no_trees c.args.self.now.forest) _)
    c.last.ensures
