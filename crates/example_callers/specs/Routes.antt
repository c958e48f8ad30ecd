-- Routes.
use Rattle.std.specs.Prelude.{List}
use Rattle.tok_lexical.specs.declared.delimiter.Delimiter.TheVariants.{Parenthesis}
use Rattle.tok_leaves.specs.declared.ident.Ident.{Ident}
use Rattle.tok_leaves.specs.declared.literal.Literal.{Literal}
use Rattle.syn_parse.specs.Takes.{Taking, ◌>>=◌, gives, take_group}
use Rattle.syn_parse.specs.TokenNames.{Comma, RArrow, Semi, Token, take}
use Rattle.syn_parse.specs.Tokens.{take_ident, take_literal}
use Rattle.syn_punctuated.specs.TakeLists.{list_form, take_terminated}
use Rattle.example_callers.specs.Records.{PathForm, path_form, take_path}
use Rattle.example_callers.specs.declared.route.Names.{Names}
use Rattle.example_callers.specs.declared.route.Route.{Route}
use Rattle.example_callers.specs.declared.route.Target.{Target}

-- the names and the commas
abbrev pub NamesForm : Type 0
NamesForm = List Ident × List (Token Comma)

-- names as contracts see them
abbrev pub names_form : Names → NamesForm
names_form n = list_form (λ v. v) (λ p. p) n.list

-- names with commas between them; there may be one after the last
abbrev pub take_names : Taking NamesForm
take_names = take_terminated take_ident (take Comma)

-- a target as contracts see it
abbrev pub target_form : Target → PathForm × NamesForm
target_form t = (path_form t.path, names_form t.arguments)

-- `path (names);`
unfoldable pub take_target : Taking (PathForm × NamesForm)
take_target = do
  path ← take_path
  names ← take_group Parenthesis take_names
  _ ← take Semi
  gives (path, names.1)

-- a route as contracts see it
abbrev pub route_form : Route → Ident × Literal × (PathForm × NamesForm)
route_form r = (r.method, r.pattern, target_form r.target)

-- `method "pattern" -> target`
abbrev pub take_route : Taking (Ident × Literal × (PathForm × NamesForm))
take_route = do
  method ← take_ident
  pattern ← take_literal
  _ ← take RArrow
  target ← take_target
  gives (method, pattern, target)
