-- What depends on the edition (Rust Reference: Tokens, Reserved prefixes and Reserved guards).
use Rattle.std.specs.Prelude.{Bool, true, false}
use Rattle.tok_lexical.specs.declared.edition.Edition.{Edition}
use Rattle.tok_lexical.specs.declared.edition.Edition.TheVariants.{Edition2015, Edition2018}
use Rattle.tok_lexical.specs.declared.edition.Edition.TheVariants.{Edition2024}

-- from 2021 on, which brought C strings and raw lifetimes too
abbrev pub reserves_prefixes : Edition → Bool
reserves_prefixes Edition2015 = false
reserves_prefixes Edition2018 = false
reserves_prefixes edition = true

-- from 2024 on
abbrev pub reserves_guards : Edition → Bool
reserves_guards Edition2024 = true
reserves_guards edition = false
