use Rattle.std.proofs.Common.{inl, inr}
use Rattle.tok_lexical.proofs.Decimals.{decimal_only}
use Rattle.tok_lexical.proofs.rule.Mode.decimal.Goals as goal

pub returns-in-Source-clause-fits : goal.returns-in-Source-clause-fits
returns-in-Source-clause-fits c = rw c.in-Source.is c.source_decimal.ensures.fits

pub returns-in-Plain : goal.returns-in-Plain
returns-in-Plain c =
    let fits = decimal_only _ _ _ c.past_decimals-rest.ensures.1 c.requires _ _
    c.past_number_suffix.ensures.1 in
    record {
      fits = elim c.in-Plain.is [ inl plain ↦ rw plain fits | inr marked ↦ rw marked fits ];
      utf8 = c.past_number_suffix.utf8;
    }
