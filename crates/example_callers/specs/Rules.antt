-- Rules.
use Rattle.std.specs.Prelude.{List, Option, codes, option_map}
use Rattle.tok_lexical.specs.declared.delimiter.Delimiter.TheVariants.{Brace, Bracket, Parenthesis}
use Rattle.tok_leaves.specs.declared.ident.Ident.{Ident}
use Rattle.tok_leaves.specs.declared.lifetime.Lifetime.{Lifetime}
use Rattle.tok_leaves.specs.declared.literal.Literal.{Literal}
use Rattle.syn_parse.specs.After.{take_after}
use Rattle.syn_parse.specs.Lighter.{lowering}
use Rattle.syn_parse.specs.Many.{take_to_end, vec_form}
use Rattle.syn_parse.specs.Owned.{take_own}
use Rattle.syn_parse.specs.Sequences.{take_three}
use Rattle.syn_parse.specs.Takes.{Taking, ◌>>=◌, gives, take_group}
use Rattle.syn_parse.specs.Takings.{Lowers}
use Rattle.syn_parse.specs.TokenNames.{Colon, Comma, Eq, FatArrow, Not, PathSep, Semi, Token, Where}
use Rattle.syn_parse.specs.TokenNames.{sees, take}
use Rattle.syn_parse.specs.Tokens.{take_ident, take_lifetime, take_literal}
use Rattle.syn_punctuated.specs.TakeLists.{list_form, take_terminated}
use Rattle.example_callers.specs.declared.rule.Assignment.{Assignment}
use Rattle.example_callers.specs.declared.rule.Rule.{Rule}

-- `name = value;`
unfoldable pub take_assignment : Taking Assignment
take_assignment = do
  name ← take_ident
  _ ← take Eq
  value ← take_literal
  _ ← take Semi
  gives (record { name = name; value = value })

-- less is ahead after an assignment
pub lowers_assignment : Lowers take_assignment
unfolding take_assignment
lowers_assignment = search lowering depth 20

-- all that a rule is, but how its lists are stored
abbrev pub RuleForm : Type 0
RuleForm =
    Ident × (List Literal × List (Token Comma)) × List Assignment × Lifetime × Ident × Ident
    × Option (Token Where × Ident)

-- a rule as contracts see it
abbrev pub rule_form : Rule → RuleForm
rule_form r = (
  r.name,
  list_form (λ v. v) (λ p. p) r.inputs,
  vec_form (λ v. v) r.assignments,
  r.lifetime,
  r.owner,
  r.target,
  option_map (λ g. (g.0, g.1)) r.guard,
)

-- `rule name: [inputs] { assignments } => lifetime (owner::target) where guard!`
abbrev pub take_rule : Taking RuleForm
take_rule = do
  _ ← take_own (codes "rule")
  name ← take_ident
  _ ← take Colon
  inputs ← take_group Bracket (take_terminated take_literal (take Comma))
  assignments ← take_group Brace (take_to_end take_assignment)
  _ ← take FatArrow
  lifetime ← take_lifetime
  path ← take_group Parenthesis (take_three take_ident (take PathSep) take_ident)
  guard ← take_after (sees Where) (take Where) take_ident
  _ ← take Not
  gives (name, inputs.1, assignments.1, lifetime, path.1.0, path.1.2, guard)
