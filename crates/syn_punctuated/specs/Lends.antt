-- What a list ends as, if a `&mut` to one of its values is returned.
use Rattle.std.specs.Prelude.{◌≡◌, ℕ, Option, None, Some, OnSome, slice_get, slice_set, nat_lt}
use Rattle.std.specs.Prelude.{if◌then◌else◌}
use Rattle.std.specs.Global.{Vec, Box}
use Rattle.std.specs.Vec.{with_item, vec_len}
use Rattle.std.specs.Borrow.{Lends, LendsIf, LendsSo, Fml, RattleType, MutBor}
use Rattle.syn_punctuated.specs.declared.punctuated.Punctuated.{Punctuated}
use Rattle.syn_punctuated.specs.Lists.{values_of, separators_of, IsUnchanged}
use Rattle.syn_punctuated.specs.contracts.punctuated.Punctuated.{the_row}

-- the pairs with the value of the pair at index written over; that pair is handed in
abbrev pub with_value_of : {X Y : Type 0} → Option (X × Y) → Vec (X × Y) → ℕ → X → Vec (X × Y)
with_value_of None pairs index value = pairs
with_value_of (Some pair) pairs index value = with_item pairs index (value, pair.1)

-- the pairs with the value of the pair at index written over
abbrev pub with_pair_value : {X Y : Type 0} → Vec (X × Y) → ℕ → X → Vec (X × Y)
with_pair_value pairs index value = with_value_of (slice_get pairs.items index) pairs index value

-- a bare last value written over
abbrev pub with_last_value : {X : Type 0} → Option (Box X) → X → Option (Box X)
with_last_value None value = None
with_last_value (Some last) value = Some (record last { value = value })

-- the list with the value at index written over
abbrev pub with_value : {X Y : Type 0} → Punctuated X Y → ℕ → X → Punctuated X Y
with_value list index value =
    if nat_lt index (vec_len list.inner)
    then record list { inner = with_pair_value list.inner index value }
    else record list { last = with_last_value list.last value }

-- new is old with the value at index written over
abbrev pub WritesValue : {X Y : Type 0} → ℕ → X → Punctuated X Y → Punctuated X Y → Type 0
WritesValue index value old new =
    (values_of new ≡ slice_set (values_of old) index value)
    × (separators_of new ≡ separators_of old)

module _ (T P : RattleType) (s : MutBor (Punctuated T.Denot P.Denot)) where
  -- once the borrow r ends, the pair at index has the last value written through r
  abbrev pub lends_pair_value : ℕ → MutBor T.Denot → Fml
  lends_pair_value index r =
      Lends (the_row T P) T s r (λ w. record s.now { inner = with_pair_value s.now.inner index w })

  -- once the borrow r ends, the bare last value is the last one written through r; at `None` the
  -- list stays unchanged
  abbrev pub lends_last_value : Option (MutBor T.Denot) → Fml
  lends_last_value r =
      LendsIf (the_row T P) T s r (λ w. record s.now { last = with_last_value s.now.last w }) s.now

  -- once the borrow r ends, the list has at index the last value written through r, and all else as
  -- before; at `None` all is as before
  abbrev pub LendsValue : ℕ → Option (MutBor T.Denot) → Fml
  LendsValue index r =
      LendsSo (the_row T P) T s r (λ new w. OnSome r (WritesValue index w s.now new))
      (λ new. IsUnchanged s.now new)

  -- once the borrow r ends, the value at index is the last one written through r
  abbrev pub LendsValueAt : ℕ → MutBor T.Denot → Fml
  LendsValueAt index r = Lends (the_row T P) T s r (with_value s.now index)
