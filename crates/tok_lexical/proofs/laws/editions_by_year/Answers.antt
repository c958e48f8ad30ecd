use Rattle.std.proofs.Common.{refl}
use Rattle.tok_lexical.specs.declared.edition.Edition.TheVariants.{Edition2015, Edition2018}
use Rattle.tok_lexical.specs.declared.edition.Edition.TheVariants.{Edition2021, Edition2024}
use Rattle.tok_lexical.proofs.laws.editions_by_year.Goals as goal

pub returns-clause-hash : goal.returns-clause-hash
returns-clause-hash c Edition2015 = refl
returns-clause-hash c Edition2018 = refl
returns-clause-hash c Edition2021 = refl
returns-clause-hash c Edition2024 = refl
