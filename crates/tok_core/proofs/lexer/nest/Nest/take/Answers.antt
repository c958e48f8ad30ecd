use Rattle.std.proofs.Common.{◌+◌, ap, arith}
use Rattle.tok_lexical.proofs.Fits.{fits_longest}
use Rattle.tok_core.proofs.Lexical.Blanks.{shorter}
use Rattle.tok_core.proofs.Lexical.Cuts.{decided_piece, halted_at, returns_in}
use Rattle.tok_core.proofs.lexer.nest.Nest.take.Goals as goal

pub front_of-front-requires : goal.front_of-front-requires
front_of-front-requires g c = (c.requires.found.0, (fits_longest c.requires.found.1).cut)

pub take_in-requires-clause-spelled : goal.take_in-requires-clause-spelled
take_in-requires-clause-spelled g c =
    (fits_longest (decided_piece _ c.args.rule _ _ _ _
    (c.front_of-front.ensures.is _ (fits_longest c.requires.found.1).cut)
    c.requires.found.1)).spelled

pub take_in-requires-clause-fits : goal.take_in-requires-clause-fits
take_in-requires-clause-fits g c =
    let l = shorter _ c.args.rule _ _ _ c.utf8.text c.utf8.after c.requires.found.1 in
    let f = c.requires.fits in
    omega arith

pub take_in-requires-clause-returns : goal.take_in-requires-clause-returns
take_in-requires-clause-returns g c = λ h. c.requires.returns
    (returns_in _ c.args.rule _ _ _ (decided_piece _ c.args.rule _ _ _ _
    (c.front_of-front.ensures.is _ (fits_longest c.requires.found.1).cut)
    c.requires.found.1) h)

pub returns-in-Err-clause-refused : goal.returns-in-Err-clause-refused
returns-in-Err-clause-refused g c =
    halted_at _ c.args.mode c.args.at _ c.args.rule _ _ c.in-Err.halt
    (decided_piece _ c.args.rule _ _ _ _
    (c.front_of-front.ensures.is _ (fits_longest c.requires.found.1).cut) c.requires.found.1)
    c.in-Err.ensures.refused

pub returns-in-Ok-clause-taken : goal.returns-in-Ok-clause-taken
returns-in-Ok-clause-taken g c = record {
  rule = c.args.rule;
  piece = _;
  fits = decided_piece _ c.args.rule _ _ _ _
      (c.front_of-front.ensures.is _ (fits_longest c.requires.found.1).cut) c.requires.found.1;
  ends = ap (λ w. c.args.at + w) c.width.ensures;
  meant = c.in-Ok.ensures.meant;
  grown = c.in-Ok.ensures.ok;
}
