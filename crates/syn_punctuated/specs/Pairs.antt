-- Pairs of a value and the separator after it.
use Rattle.std.specs.Prelude.{◌&&◌, ◌++◌, pos, Bool, false, Option, None, Some}
use Rattle.std.specs.Hash as fed
use Rattle.std.specs.Hash.{HashWrites}
use Rattle.syn_punctuated.specs.declared.pair.Pair.{Pair}
use Rattle.syn_punctuated.specs.declared.pair.Pair.TheVariants.{Punctuated, End}
use denote.Ref.{Bor, MutBor}

module _ {X Y : Type 0} where
  -- the value of a pair
  abbrev pub value_of_pair : Pair X Y → X
  value_of_pair (Punctuated x y) = x
  value_of_pair (End x) = x

  -- the separator of a pair, if it has one
  abbrev pub separator_of_pair : Pair X Y → Option Y
  separator_of_pair (Punctuated x y) = Some y
  separator_of_pair (End x) = None

  -- a value with the separator after it, and a bare value, as pairs
  abbrev pub pair_of : X × Y → Pair X Y
  pair_of both = Punctuated both.0 both.1

  -- the pair of a bare last value
  abbrev pub end_of : X → Pair X Y
  end_of x = End x

  -- the pair that a pair of references points to
  abbrev pub deref_both : Pair (Bor X) (Bor Y) → Pair X Y
  deref_both (Punctuated x y) = Punctuated x.now y.now
  deref_both (End x) = End x.now

  -- the pair that a pair of references for writing points to
  abbrev pub deref_both_mut : Pair (MutBor X) (MutBor Y) → Pair X Y
  deref_both_mut (Punctuated x y) = Punctuated x.now y.now
  deref_both_mut (End x) = End x.now

-- pairs are equal if both have a separator or neither has, and their parts are equal
abbrev pub equal_pairs : {X Y : Type 0} → (X → X → Bool) → (Y → Y → Bool) → Pair X Y → Pair X Y →
    Bool
equal_pairs value separator (Punctuated x y) (Punctuated v w) = value x v && separator y w
equal_pairs value separator (End x) (End v) = value x v
equal_pairs value separator left right = false

-- a clone of a pair has clones of its parts, and a separator if the pair has one
abbrev pub clones_pair : {X Y : Type 0} → (X → X → Type 0) → (Y → Y → Type 0) → Pair X Y →
    Pair X Y → Type 0
clones_pair value separator (Punctuated x y) (Punctuated v w) = value x v × separator y w
clones_pair value separator (End x) (End v) = value x v
clones_pair value separator pair clone = ⊥

-- the input of a hasher from a pair: whether it has a separator, and its parts
abbrev pub pair_input : {X Y : Type 0} → (X → HashWrites) → (Y → HashWrites) → Pair X Y →
    HashWrites
pair_input value separator (Punctuated x y) = fed.isize (pos 0) ++ value x ++ separator y
pair_input value separator (End x) = fed.isize (pos 1) ++ value x
