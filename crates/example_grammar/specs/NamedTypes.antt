-- Types whose arguments are types, between `<` and `>`.
use Rattle.std.specs.Prelude.{◌≡◌, List, [], ◌∷◌}
use Rattle.tok_leaves.specs.declared.ident.Ident.{Ident}
use Rattle.syn_parse.specs.Nested.{Descends, lightens_nested, nested_again, take_nested}
use Rattle.syn_parse.specs.Takes.{Taking, ◌>>=◌, gives, where_ahead}
use Rattle.syn_parse.specs.Takings.{Lightens, Takings, lighter, taken_as, told}
use Rattle.syn_parse.specs.TokenNames.{Comma, Gt, Lt, Token, sees, take}
use Rattle.syn_parse.specs.Tokens.{take_ident}
use Rattle.syn_parse.specs.TreesAhead.{Ahead}
use Rattle.syn_punctuated.specs.Lists.{values_of, separators_of}
use Rattle.syn_punctuated.specs.NestedLists.{descending_lists}
use Rattle.syn_punctuated.specs.TakeLists.{list_form, take_separated}
use Rattle.syn_punctuated.specs.declared.punctuated.Punctuated.{Punctuated}
use Rattle.example_grammar.specs.declared.named_type.NamedType.{NamedType}
use Rattle.example_grammar.specs.declared.named_type.NamedType.TheFolds.{fold-NamedType}
use Rattle.example_grammar.specs.declared.named_type.NamedType.TheOpen.{NamedType-F}

mutual
  -- a type, without the storage of its lists
  pub data Form : Type 0 where
    plain : Ident → Form
    generic : Ident → Token Lt → Forms → List (Token Comma) → Token Gt → Form

  -- no type, or a first one and the others
  pub data Forms : Type 0 where
    none : Forms
    one_more : Form → Forms → Forms

-- a list of forms as its own type
abbrev pub forms : List Form → Forms
forms [] = none
forms (f ∷ fs) = one_more f (forms fs)

-- types and the commas between them
abbrev pub ListForm : Type 0
ListForm = List Form × List (Token Comma)

-- a name and these arguments
abbrev pub with_arguments : Ident → Token Lt × ListForm × Token Gt → Form
with_arguments name a = generic name a.0 (forms a.1.0) a.1.1 a.2

-- a type, with the forms of its arguments in their place
abbrev pub one_level : NamedType-F Form → Form
one_level (NamedType-F.Plain name) = plain name
one_level (NamedType-F.Generic name left list right) =
    with_arguments name (left, (values_of list, separators_of list), right)

-- a type as contracts see it
abbrev pub type_form : NamedType → Form
type_form = fold-NamedType Form one_level

-- `<Type, ..>`, by how a type is taken
unfoldable pub take_arguments : Taking Form → Taking (Token Lt × ListForm × Token Gt)
take_arguments one = do
  left ← take Lt
  list ← take_separated (sees Comma) one (take Comma)
  right ← take Gt
  gives (left, list, right)

-- `Name` or `Name<Type, ..>`, by how the types within it are taken
abbrev pub type_step : Taking Form → Taking Form
type_step one = do
  name ← take_ident
  where_ahead (sees Lt) (do
    list ← take_arguments one
    gives (with_arguments name list)) (gives (plain name))

-- each level takes less than the one around it
pub type_descends : Descends 0 type_step
unfolding take_arguments
type_descends = search descending_lists depth 40

-- takes a type, with types within it
abbrev pub take_type : Taking Form
take_type = take_nested type_step

-- a type is one level around types
pub type_again : (a : Ahead) → take_type a ≡ type_step take_type a
type_again = nested_again type_step type_descends

-- a type adds nothing to what is ahead
pub lightens_type : Lightens take_type
lightens_type = lightens_nested type_step type_descends

-- the parse of a type
abbrev pub types : Takings NamedType
types = told type_form take_type (lighter lightens_type)

-- types with commas between them
abbrev pub lists : Takings (Punctuated NamedType (Token Comma))
lists = taken_as (list_form type_form (λ p. p)) (take_separated (sees Comma) take_type (take Comma))

-- types with commas between them, between `<` and `>`
abbrev pub arguments : Takings (Token Lt × Punctuated NamedType (Token Comma) × Token Gt)
arguments =
    taken_as (λ a. (a.0, list_form type_form (λ p. p) a.1, a.2)) (take_arguments take_type)
