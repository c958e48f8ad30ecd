-- What a pair ends as, if a `&mut` to one of its parts is returned.
use Rattle.std.specs.Prelude.{Option}
use Rattle.std.specs.Borrow.{Lends, LendsIf, Fml, RattleType, MutBor}
use Rattle.syn_punctuated.specs.declared.pair.Pair.{Pair}
use Rattle.syn_punctuated.specs.declared.pair.Pair.TheVariants.{Punctuated, End}
use Rattle.syn_punctuated.specs.contracts.pair.Pair.{the_row}

-- the pair with its value written over
abbrev pub pair_with_value : {X Y : Type 0} → Pair X Y → X → Pair X Y
pair_with_value (Punctuated x y) value = Punctuated value y
pair_with_value (End x) value = End value

-- the pair with its separator written over
abbrev pub pair_with_separator : {X Y : Type 0} → Pair X Y → Y → Pair X Y
pair_with_separator (Punctuated x y) separator = Punctuated x separator
pair_with_separator (End x) separator = End x

module _ (T P : RattleType) (s : MutBor (Pair T.Denot P.Denot)) where
  -- once the borrow r ends, the pair has the last value written through r
  abbrev pub LendsPairValue : MutBor T.Denot → Fml
  LendsPairValue r = Lends (the_row T P) T s r (pair_with_value s.now)

  -- once the borrow r ends, the pair has the last separator written through r; at `None` it stays
  -- unchanged
  abbrev pub LendsPairSeparator : Option (MutBor P.Denot) → Fml
  LendsPairSeparator r = LendsIf (the_row T P) P s r (pair_with_separator s.now) s.now
