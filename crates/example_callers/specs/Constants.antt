-- Constants `const a<T> = 1;` and `const a: Kind;`.
use Rattle.std.specs.Prelude.{Option, option_map}
use Rattle.either.specs.Either.{map_either}
use Rattle.either.specs.declared.Either.{Either}
use Rattle.tok_leaves.specs.declared.ident.Ident.{Ident}
use Rattle.tok_leaves.specs.declared.literal.Literal.{Literal}
use Rattle.syn_choices.specs.Choices.{take_either}
use Rattle.syn_parse.specs.Optional.{take_optional}
use Rattle.syn_parse.specs.Sequences.{take_both, take_three}
use Rattle.syn_parse.specs.Takes.{Taking, ◌>>=◌, gives}
use Rattle.syn_parse.specs.TokenNames.{Colon, Const, Eq, Gt, Lt, Semi, Token, sees, take}
use Rattle.syn_parse.specs.Tokens.{take_ident, take_literal}
use Rattle.example_callers.specs.declared.constant.Constant.{Constant}
use Rattle.example_callers.specs.declared.constant.Head.{Head}

-- the name, and the generics if there are any
abbrev pub HeadForm : Type 0
HeadForm = Ident × Option (Token Lt × Ident × Token Gt)

-- a head as contracts see it
abbrev pub head_form : Head → HeadForm
head_form h = (h.name, option_map (λ g. (g.0, g.1, g.2)) h.generics)

-- `const name<T>`, where `<T>` may be missing
unfoldable pub take_head : Taking HeadForm
take_head = do
  _ ← take Const
  name ← take_ident
  generics ← take_optional (sees Lt) (take_three (take Lt) take_ident (take Gt))
  gives (name, generics)

-- the head and the body
abbrev pub ConstantForm : Type 0
ConstantForm = HeadForm × Either (Token Eq × Literal) (Token Colon × Ident)

-- a constant as contracts see it
abbrev pub constant_form : Constant → ConstantForm
constant_form c =
    (head_form c.head, map_either (λ v. (v.0, v.1)) (λ k. (k.0, k.1)) c.body)

-- `const name<T> = value;` or `const name<T>: Kind;`
abbrev pub take_constant : Taking ConstantForm
take_constant = do
  head ← take_head
  body ←
      take_either (sees Eq) (take_both (take Eq) take_literal) (take_both (take Colon) take_ident)
  _ ← take Semi
  gives (head, body)
