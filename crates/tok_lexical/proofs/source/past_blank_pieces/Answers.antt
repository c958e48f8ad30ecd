use Rattle.std.proofs.Common.{◌∙◌, sym, ap}
use Rattle.tok_lexical.specs.Sources.{over, is_blank_piece}
use Rattle.tok_lexical.proofs.Fits.{fits_longest}
use Rattle.tok_lexical.proofs.Sources.{blanks_one, last_found, last_none, shorter_piece}
use Rattle.tok_lexical.proofs.source.past_blank_pieces.Goals as goal

pub loop-rule-init : goal.loop-rule-init
loop-rule-init c = (c.utf8.text, over)

pub front_of-requires : goal.front_of-requires
front_of-requires c = (c.in-Some.ensures.tries.0, (fits_longest c.in-Some.ensures.tries.1).cut)

pub returns-then-not-is_blank_piece-clause-last : goal.returns-then-not-is_blank_piece-clause-last
returns-then-not-is_blank_piece-clause-last c =
    let d = c.in-Some.ensures.tries in
    last_found d.1
    (ap (is_blank_piece c.in-Some.rule) (sym (c.front_of.ensures.is _ (fits_longest d.1).cut))
    ∙ sym c.is_blank_piece.ensures ∙ c.if-not-is_blank_piece.true)

pub loop-rule-smaller : goal.loop-rule-smaller
loop-rule-smaller c = shorter_piece _ _ c.in-Some.rule _ c.loop-rule.invariant.0
    c.in-Some.ensures.utf8 c.in-Some.ensures.tries.1

pub loop-rule-preserved : goal.loop-rule-preserved
loop-rule-preserved c =
    let d = c.in-Some.ensures.tries in (
      c.in-Some.ensures.utf8,
      blanks_one c.loop-rule.invariant.1 d.1
          (ap (is_blank_piece c.in-Some.rule) (sym (c.front_of.ensures.is _ (fits_longest d.1).cut))
          ∙ sym c.is_blank_piece.ensures ∙ c.if-not-is_blank_piece.false),
    )

pub returns-clause-last : goal.returns-clause-last
returns-clause-last c = last_none _ c.in_default.ensures.tries
