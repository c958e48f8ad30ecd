-- Flat arguments: one with a list is known once those inside it are written.
use Rattle.std.proofs.Common.{◌≡◌, ℕ, ◌-◌, List, [], ◌∷◌, ◌++◌, length, set, refl, ap, ◌∙◌}
use Rattle.std.proofs.Common.{arith, append_assoc, length-append}
use Rattle.std.proofs.lemmas.List.{set_at}
use Rattle.tok_leaves.specs.Spans.{whole_span}
use Rattle.tok_leaves.specs.declared.span.Span.{Span}
use Rattle.tok_types.specs.declared.delimiter.Visible.{Visible}
use Rattle.arguments.proofs.Formed.{form_argument, form_list}
use Rattle.arguments.specs.Forms.{argument_form, list_form, listed, value_form}
use Rattle.arguments.specs.Values.{Arguments}
use Rattle.arguments.specs.declared.argument.Argument.{Argument}
use Rattle.arguments.specs.declared.argument.Value.TheVariants as made
use Rattle.syn_tokens_c.specs.Flats.{flat_as}
use Rattle.syn_tokens_c.specs.declared.flat.FlatArgument.{FlatArgument}

set_first : (xs ys : List FlatArgument) (x y : FlatArgument)
    → set ((xs ++ x ∷ []) ++ ys) (length xs) y ≡ xs ++ y ∷ ys
set_first xs ys x y =
    rw (append_assoc xs (x ∷ []) ys) (set_at xs x ys y (length xs) refl)

-- ys are the arguments xs, some x, and those inside; z is x with the count of those
pub list_lies : (xs bs ys inner : List FlatArgument) (x z : FlatArgument) (name span : Span)
    (start all : ℕ) → start ≡ length xs → bs ≡ xs ++ x ∷ [] → ys ≡ bs ++ inner → all ≡ length ys
    → z ≡ flat_as 2 name span (all - start - 1)
    → set ys start z ≡ xs ++ (flat_as 2 name span (length inner) ∷ inner)
list_lies xs bs ys inner x z name span start all hs hb hy ha hz =
    let count : all - start - 1 ≡ length inner =
    omega (
      arith,
      hs,
      ha,
      ap length hy,
      ap length hb,
      length-append bs inner,
      length-append xs (x ∷ []),
    ) in
    rw (hz, count, hy, hb, hs) (set_first xs inner x (flat_as 2 name span (length inner)))

-- the form of an argument with a list
pub form_of_list : (a : Argument) (paren : Visible 0) (inner : Arguments)
    → a.value ≡ made.List paren inner
    → argument_form a ≡ listed a.name (whole_span paren.span) (list_form inner)
form_of_list a paren inner e =
    form_argument a.name a.value ∙ ap (λ v. value_form v a.name) e ∙ form_list a.name paren inner
