use Rattle.std.proofs.Common.{◌∙◌, ◌∷◌, ap, sym}
use Rattle.std.proofs.lemmas.Bool.{eqb-true}
use Rattle.std.specs.Str.{chars}
use Rattle.tok_lexical.specs.Numbers.{starts_digit}
use Rattle.tok_lexical.specs.declared.start.Start.TheVariants as start
use Rattle.tok_lexical.proofs.First.{told}
use Rattle.tok_lexical.proofs.Seconds.{decides_digit, decides_zero, decides_prefix, decides_raw}
use Rattle.tok_lexical.proofs.rule.second_told.Goals as goal

pub decimal-requires : goal.decimal-requires
decimal-requires c = ap starts_digit c.requires.1
    ∙ told c.requires.0 start.Digit (sym c.requires.2 ∙ c.in-Digit.is)

pub returns-in-Digit-clause-fits : goal.returns-in-Digit-clause-fits
returns-in-Digit-clause-fits c =
    let d = c.decimal.ensures.fits in (
      d.0,
      decides_digit c.args.mode c.requires.0 _ _ _ _ _ c.requires.1 d.1
          (sym c.requires.2 ∙ c.in-Digit.is),
    )

pub decimal-requires-in-Zero : goal.decimal-requires-in-Zero
decimal-requires-in-Zero c =
    ap starts_digit (c.requires.1 ∙ ap (λ k. k ∷ chars c.args.rest.now)
    (eqb-true _ 48 (told c.requires.0 start.Zero (sym c.requires.2 ∙ c.in-Zero.is))))

pub returns-in-Zero-clause-fits : goal.returns-in-Zero-clause-fits
returns-in-Zero-clause-fits c =
    let d = c.decimal-in-Zero.ensures.fits in (
      d.0,
      decides_zero c.args.mode c.requires.0 _ _ _ _ _ c.requires.1 d.1
          (sym c.requires.2 ∙ c.in-Zero.is) (sym c.if-not-names_base.ensures),
    )

pub returns-in-Prefix-clause-fits : goal.returns-in-Prefix-clause-fits
returns-in-Prefix-clause-fits c = decides_prefix c.args.mode c.requires.0 _ _ c.requires.1
    (sym c.requires.2 ∙ c.in-Prefix.is) _ (sym c.if-not-opens_literal.ensures)
    c.past_continues.ensures

pub returns-in_ok-end-in-Prefix-2-clause-fits : goal.returns-in_ok-end-in-Prefix-2-clause-fits
returns-in_ok-end-in-Prefix-2-clause-fits c =
    let tried = c.in_ok-end-in-Prefix-2.ensures.tries in (
      tried.0,
      decides_raw c.args.mode c.requires.0 _ _ c.requires.1
          (sym c.requires.2 ∙ c.in-Prefix-2.is) _ _ tried.1,
    )
