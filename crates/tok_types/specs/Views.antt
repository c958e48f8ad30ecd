-- Peeks to which invisible groups do not matter.
use Rattle.std.specs.Prelude.{◌≡◌, Bool}
use Rattle.tok_buffer.specs.Buffer.{Laid}
use Rattle.tok_buffer.specs.Place.{Place}
use Rattle.tok_buffer.specs.SameView.{SameView}

-- a peek returns the same at places of filled forests with equal views
abbrev pub IgnoresInvisible : (Place → Bool → Type 0) → Type 0
IgnoresInvisible peeks =
    (b c : Laid) (p q : Place) → SameView b c p q
    → (x y : Bool) → peeks p x → peeks q y → x ≡ y
