use Rattle.std.proofs.Common.{rules}
use Rattle.tok_entries.proofs.Splits.{is_cut}
use Rattle.tok_entries.proofs.intake.parts.text_up_to.Goals as goal

pub returns-in-None-clause-parts : goal.returns-in-None-clause-parts
returns-in-None-clause-parts c = λ text behind u e h.
    search (
      rules,
      is_cut c.args.rest.now text behind c.args.begin c.args.end c.in-Some.size
          c.utf8.rest (search rules) u e h,
    )
