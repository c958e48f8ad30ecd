-- What the iterators that lend values to be written have left.
use Rattle.std.specs.Prelude.{List, ◌++◌, map}
use Rattle.std.specs.Slice.Iter.{iter_mut_rest}
use Rattle.std.specs.Option.{option_copied_mut, option_to_list}
use Rattle.syn_punctuated.specs.Pairs.{pair_of, end_of, value_of_pair}
use Rattle.syn_punctuated.specs.declared.pair.Pair.{Pair}
use Rattle.syn_punctuated.specs.declared.iter_mut.IterMut.{IterMut}
use Rattle.syn_punctuated.specs.declared.pairs_mut.PairsMut.{PairsMut}

module _ {X Y : Type 0} where
  -- the pairs that a `PairsMut` has left
  abbrev pub lent_pairs : PairsMut X Y → List (Pair X Y)
  lent_pairs it =
      map pair_of (iter_mut_rest it.inner)
      ++ map end_of (option_to_list (option_copied_mut it.last))

  -- the pairs whose values an `IterMut` has left
  abbrev pub lent_by_values : IterMut X Y → List (Pair X Y)
  lent_by_values it = lent_pairs it.pairs

  -- the values that an `IterMut` has left
  abbrev pub lent_values : IterMut X Y → List X
  lent_values it = map value_of_pair (lent_pairs it.pairs)
