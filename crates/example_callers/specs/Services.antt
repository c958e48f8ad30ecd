-- Services.
use Rattle.std.specs.Prelude.{codes}
use Rattle.tok_lexical.specs.declared.delimiter.Delimiter.TheVariants.{Brace, Parenthesis}
use Rattle.syn_parse.specs.Owned.{take_own}
use Rattle.syn_parse.specs.Takes.{Taking, ◌>>=◌, gives, take_group}
use Rattle.syn_parse.specs.TokenNames.{As, Colon, RArrow, Semi, take}
use Rattle.syn_parse.specs.Tokens.{take_ident}
use Rattle.example_callers.specs.declared.service.Owner.{Owner}
use Rattle.example_callers.specs.declared.service.Service.{Service}

-- `owner: Team`
unfoldable pub take_owner : Taking Owner
take_owner = do
  name ← take_ident
  _ ← take Colon
  kind ← take_ident
  gives (record { name = name; kind = kind })

-- `service name (owner: Team) as alias { options } -> target;`
abbrev pub take_service : Taking Service
take_service = do
  _ ← take_own (codes "service")
  name ← take_ident
  owner ← take_group Parenthesis take_owner
  _ ← take As
  alias ← take_ident
  options ← take_group Brace take_ident
  _ ← take RArrow
  target ← take_ident
  _ ← take Semi
  gives (record {
    name = name;
    owner = owner.1;
    alias = alias;
    options = options.1;
    target = target;
  })
