-- Records, their fields, and paths.
use Rattle.std.specs.Prelude.{List}
use Rattle.tok_lexical.specs.declared.delimiter.Delimiter.TheVariants.{Brace}
use Rattle.tok_leaves.specs.declared.ident.Ident.{Ident}
use Rattle.syn_parse.specs.Lighter.{lowering}
use Rattle.syn_parse.specs.Takes.{Taking, ◌>>=◌, gives, take_group}
use Rattle.syn_parse.specs.Takings.{Lowers}
use Rattle.syn_parse.specs.TokenNames.{Colon, Comma, PathSep, Struct, Token, sees, take}
use Rattle.syn_parse.specs.Tokens.{take_ident}
use Rattle.syn_punctuated.specs.TakeLists.{list_form, take_separated, take_terminated}
use Rattle.example_callers.specs.declared.records.Fields.{Fields}
use Rattle.example_callers.specs.declared.records.Member.{Member}
use Rattle.example_callers.specs.declared.records.Path.{Path}
use Rattle.example_callers.specs.declared.records.Record.{Record}

-- `name: Kind`
abbrev pub take_member : Taking Member
take_member = do
  name ← take_ident
  _ ← take Colon
  kind ← take_ident
  gives (record { name = name; kind = kind })

-- less is ahead after it
pub lowers_member : Lowers take_member
lowers_member = search lowering depth 20

-- the members and the commas
abbrev pub FieldsForm : Type 0
FieldsForm = List Member × List (Token Comma)

-- fields as contracts see them
abbrev pub fields_form : Fields → FieldsForm
fields_form f = list_form (λ v. v) (λ p. p) f.list

-- members with commas between them; there may be one after the last
abbrev pub take_fields : Taking FieldsForm
take_fields = take_terminated take_member (take Comma)

-- the name and the fields
abbrev pub record_form : Record → Ident × FieldsForm
record_form r = (r.name, fields_form r.fields)

-- `struct name { members }`
abbrev pub take_record : Taking (Ident × FieldsForm)
take_record = do
  _ ← take Struct
  name ← take_ident
  fields ← take_group Brace take_fields
  gives (name, fields.1)

-- the names and what is between them
abbrev pub PathForm : Type 0
PathForm = List Ident × List (Token PathSep)

-- a path as contracts see it
abbrev pub path_form : Path → PathForm
path_form p = list_form (λ v. v) (λ p. p) p.names

-- names with `::` between them, at least one
abbrev pub take_path : Taking PathForm
take_path = take_separated (sees PathSep) take_ident (take PathSep)
