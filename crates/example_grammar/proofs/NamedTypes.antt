-- The form of a type whose arguments are types.
use Rattle.std.proofs.Common.{◌≡◌, refl}
use Rattle.tok_leaves.specs.declared.ident.Ident.{Ident}
use Rattle.syn_parse.specs.TokenNames.{Comma, Gt, Lt, Token}
use Rattle.syn_punctuated.proofs.Mapped.{list_formed}
use Rattle.syn_punctuated.specs.TakeLists.{list_form}
use Rattle.syn_punctuated.specs.declared.punctuated.Punctuated.{Punctuated}
use Rattle.example_grammar.specs.NamedTypes.{Form, one_level, type_again, type_form}
use Rattle.example_grammar.specs.NamedTypes.{with_arguments}
use Rattle.example_grammar.specs.declared.named_type.NamedType.{NamedType}
use Rattle.example_grammar.specs.declared.named_type.NamedType.TheFolds.{fold_out-NamedType}
use Rattle.example_grammar.specs.declared.named_type.NamedType.TheFolds.{fold-roll-NamedType}
use Rattle.example_grammar.specs.declared.named_type.NamedType.TheOpen.{NamedType-F}
use Rattle.example_grammar.specs.declared.named_type.NamedType.TheVariants as made

pub form_generic : (name : Ident) (left : Token Lt) (right : Token Gt)
    (list : Punctuated NamedType (Token Comma))
    → type_form (made.Generic name left list right)
    ≡ with_arguments name (left, list_form type_form (λ p. p) list, right)
form_generic name left right =
    list_formed type_form type_form (λ list. NamedType-F.Generic name left list right)
    (λ list. with_arguments name (left, list, right))
    (λ list. made.rolls-Generic name left list right) (fold-roll-NamedType Form one_level)
    (λ inner. refl) (λ inner last. refl)

pub ruleset all = (type_again, form_generic, fold_out-NamedType, made.outs-Plain)
