-- What follows from the laws of views.
use Rattle.std.proofs.Common.{◌≡◌, ◌∙◌, sym, ap, refl, Option, Some, None, arith}
use Rattle.std.specs.Prelude.{is_some, option_map}
use Rattle.tok_buffer.specs.Buffer.{Laid}
use Rattle.tok_buffer.specs.Place.{Place}
use Rattle.tok_buffer.specs.Reads.{read_ident, skip}
use Rattle.tok_buffer.specs.SameView.{CallsLeadOn, SameView, ViewsDecide}
use Rattle.tok_buffer.specs.View.{view}
use Rattle.example_callers.specs.Views.{is_name, is_name_second}

-- after a skip the views are equal again
pub after_skip : ViewsDecide → CallsLeadOn → (b c : Laid) (p q r t : Place) → SameView b c p q
    → skip p ≡ Some r → skip q ≡ Some t → SameView b c r t
after_skip decide lead b c p q r t s h k = grind arith

map_is_some : {A B : Type 0} (f : A → B) (o : Option A) → is_some (option_map f o) ≡ is_some o
map_is_some f o = grind arith

-- and a name is there in both or in neither
same_names : ViewsDecide → (b c : Laid) (p q : Place) → SameView b c p q
    → is_some (read_ident p) ≡ is_some (read_ident q)
same_names decide b c p q s =
    sym (map_is_some _ (read_ident p)) ∙ ap is_some (decide b c p q s).leaves.idents
    ∙ map_is_some _ (read_ident q)

both_named : (x y : Option Place) → is_some x ≡ is_some y
    → ((r t : Place) → x ≡ Some r → y ≡ Some t → is_some (read_ident r) ≡ is_some (read_ident t))
    → is_name x ≡ is_name y
both_named None None e h = refl
both_named None (Some t) e h = cc
both_named (Some r) None e h = cc
both_named (Some r) (Some t) e h = h r t refl refl

-- so a name comes second in both or in neither
pub same_seconds : ViewsDecide → CallsLeadOn → (b c : Laid) (p q : Place) → SameView b c p q
    → is_name_second p ≡ is_name_second q
same_seconds decide lead b c p q s =
    let skips = (decide b c p q s).skips in
    let left = map_is_some (view b.forest) (skip p) in
    let right = map_is_some (view c.forest) (skip q) in
    let both : is_some (skip p) ≡ is_some (skip q) = cc in
    both_named (skip p) (skip q) both
    (λ r t h k. same_names decide b c r t (after_skip decide lead b c p q r t s h k))
