-- Peeks at places with equal views.
use Rattle.std.proofs.Common.{◌≡◌, ◌∙◌, sym, Option, arith}
use Rattle.std.specs.Prelude.{option_map, is_some}
use Rattle.tok_lexical.specs.declared.delimiter.Delimiter.{Delimiter}
use Rattle.tok_buffer.specs.EachRead.{First, Read}
use Rattle.tok_buffer.specs.Entry.{enter}
use Rattle.tok_buffer.specs.Place.{is_at_end}
use Rattle.tok_buffer.specs.View.{entered_view, IsVisibleDelimiter}
use Rattle.tok_buffer.proofs.View.Laws.{read-same, views_decide}
use Rattle.tok_buffer.proofs.View.Readings.{Reading}
use Rattle.tok_types.specs.Views.{IgnoresInvisible}
use Rattle.tok_types.specs.Looks.{PeeksFor}

found-both : {A : Type 0} {B : Type 0} (f g : A → B) (r q : Option A)
    → option_map f r ≡ option_map g q → is_some r ≡ is_some q
found-both f g r q e = grind arith

-- a read finds something at both places, or at neither
pub finds : {read : Read} {first : First} → Reading read first → IgnoresInvisible (PeeksFor read)
finds {read} r b c p q s x y h k =
    h ∙ found-both _ _ (read p) (read q) (read-same r b.forest c.forest p q s.same) ∙ sym k

pub finds-group : (d : Delimiter) → IsVisibleDelimiter d → IgnoresInvisible (PeeksFor (enter d))
finds-group d v =
    λ b c p q s x y h k. h
    ∙ found-both (entered_view b.forest) (entered_view c.forest) (enter d p) (enter d q)
    ((views_decide b c p q s).enters d v) ∙ sym k

pub finds-end : IgnoresInvisible (λ p found. found ≡ is_at_end p)
finds-end b c p q s x y h k = h ∙ (views_decide b c p q s).ends ∙ sym k
