-- The tokens of arguments.
use Rattle.std.specs.Prelude.{◌≡◌, ℕ, true, [], ◌∷◌}
use Rattle.tok_leaves.specs.declared.ident.Ident.{Ident}
use Rattle.tok_leaves.specs.declared.span.Span.{Span}
use Rattle.tok_types.specs.Texts.{accept_as_ident}
use Rattle.tok_types.specs.declared.punctuation.Punctuation.{Punctuation}
use Rattle.syn_parse.specs.TokenNames.{Comma, Token}
use Rattle.syn_punctuated.specs.declared.punctuated.Punctuated.{Punctuated}
use Rattle.arguments.specs.declared.argument.Argument.{Argument}

-- arguments and the commas between them
abbrev pub Arguments : Type 0
Arguments = Punctuated Argument (Token Comma)

-- a token of one character, at this span
abbrev pub sign_at : {k : ℕ} → Span → Punctuation k 1
sign_at span = record { spans = span ∷ [] }

-- a name is an identifier that is no reserved word
abbrev pub IsName : Ident → Type 0
IsName name = accept_as_ident name.text ≡ true
