-- Parameters and `where` clauses, by the visible trees ahead: "Generic parameters" in the Rust
-- Reference, with parameters and predicates as tokens.
use Rattle.std.specs.Prelude.{◌≡◌, Option, None, Some, Ok, Err}
use Rattle.tok_core.specs.Erase.{erase}
use Rattle.tok_core.specs.Forest.{Forest, no_trees}
use Rattle.syn_parse.specs.Reads.{Call}
use Rattle.syn_parse.specs.Takes.{Taking, ◌>>=◌, gives, where_ahead}
use Rattle.syn_parse.specs.Takings.{Lightens, Lowers}
use Rattle.syn_parse.specs.TokenNames.{Gt, Lt, Token, Where, sees, take}
use Rattle.syn_parse.specs.Weighing.{weighing}
use Rattle.syn_derive.specs.Runs.{lightens_until, take_until}
use Rattle.syn_derive.specs.declared.generics.Generics.{Generics}
use Rattle.syn_derive.specs.declared.generics.WhereClause.{WhereClause}
use Rattle.syn_derive.specs.declared.run.Until.TheVariants.{Params, Predicates}

-- parameters between `<` and `>`, or none
abbrev pub ParamsForm : Type 0
ParamsForm = Option (Token Lt) × Forest × Option (Token Gt)

-- parameters as contracts see them
abbrev pub params_form : Generics → ParamsForm
params_form g = (g.lt_token, erase g.params, g.gt_token)

-- parameters are parsed without a `where` clause
abbrev pub HaveNoClause : Call Generics
HaveNoClause s (Ok g) t = g.where_clause ≡ None
HaveNoClause s (Err f) t = Unit {0}

-- takes parameters between `<` and `>`, or nothing
unfoldable pub take_params : Taking ParamsForm
take_params =
    where_ahead (sees Lt) (do
      lt ← take Lt
      params ← take_until Params
      gt ← take Gt
      gives (Some lt, params, Some gt)) (gives (None, no_trees, None))

-- parameters add nothing to what is ahead
pub lightens_generics : Lightens take_params
unfolding take_params
lightens_generics = search (weighing, lightens_until) depth 40

-- `where` and predicates
abbrev pub WhereForm : Type 0
WhereForm = Token Where × Forest

-- a `where` clause as contracts see it
abbrev pub where_form : WhereClause → WhereForm
where_form w = (w.where_token, erase w.predicates)

-- takes a `where` clause
unfoldable pub take_where_clause : Taking WhereForm
take_where_clause = do
  word ← take Where
  predicates ← take_until Predicates
  gives (word, predicates)

-- a `where` clause takes something
pub lowers_where_clause : Lowers take_where_clause
unfolding take_where_clause
lowers_where_clause = search (weighing, lightens_until) depth 40
