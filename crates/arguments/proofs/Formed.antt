-- The forms of arguments, level by level.
use Rattle.std.proofs.Common.{◌≡◌, ◌∙◌, sym, ap, refl}
use Rattle.tok_leaves.specs.Spans.{whole_span}
use Rattle.tok_leaves.specs.declared.ident.Ident.{Ident}
use Rattle.tok_leaves.specs.declared.literal.Literal.{Literal}
use Rattle.tok_types.specs.declared.delimiter.Visible.{Visible}
use Rattle.syn_parse.specs.TokenNames.{Eq, Token}
use Rattle.syn_punctuated.proofs.Mapped.{values_mapped}
use Rattle.arguments.specs.Forms.{argument_form, argument_level, assigned, flag, list_form}
use Rattle.arguments.specs.Forms.{listed, value_form, value_level}
use Rattle.arguments.specs.Reading.{argument_again}
use Rattle.arguments.specs.Values.{Arguments}
use Rattle.arguments.specs.declared.argument.Value.{Value}
use Rattle.arguments.specs.declared.argument.Value.TheFolds.{fold-roll-Argument, fold-roll-Value}
use Rattle.arguments.specs.declared.argument.Value.TheVariants as made

pub form_flag : (name : Ident) → value_form made.Flag name ≡ flag name
form_flag name = rw (← made.rolls-Flag, fold-roll-Value)

pub form_assigned : (name : Ident) (equals : Token Eq) (text : Literal)
    → value_form (made.Literal equals text) name ≡ assigned name equals text
form_assigned name equals text = rw (← made.rolls-Literal, fold-roll-Value)

pub form_argument : (name : Ident) (value : Value)
    → argument_form (record { name = name; value = value }) ≡ value_form value name
form_argument name value =
    fold-roll-Argument _ _ value_level argument_level (record { name = name; value = value })

pub form_list : (name : Ident) (paren : Visible 0) (list : Arguments)
    → value_form (made.List paren list) name ≡ listed name (whole_span paren.span) (list_form list)
form_list name paren =
    values_mapped argument_form _ (listed name (whole_span paren.span)) _
    (λ list. ap (λ v. value_form v name) (sym (made.rolls-List paren list))
    ∙ ap (λ f. f name) (fold-roll-Value _ _ value_level argument_level _))
    (λ inner. refl) (λ inner b. refl)

pub ruleset all = (argument_again, form_flag, form_assigned, form_argument, form_list)
