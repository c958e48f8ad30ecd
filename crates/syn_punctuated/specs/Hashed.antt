-- What a list feeds to a hasher.
use Rattle.std.specs.Prelude.{◌++◌, length, slice_get}
use Rattle.std.specs.Hash as fed
use Rattle.std.specs.Hash.{HashWrites}
use Rattle.std.specs.List.{zip}
use Rattle.syn_punctuated.specs.Lists.{values_of, separators_of}
use Rattle.syn_punctuated.specs.declared.punctuated.Punctuated.{Punctuated}

module _ {X Y : Type 0} (value : X → HashWrites) (separator : Y → HashWrites) where
  -- how many separators there are, and each with the value before it; and then the last value, if
  -- the value is bare
  abbrev pub list_input : Punctuated X Y → HashWrites
  list_input list =
      fed.slice (λ p. value p.0 ++ separator p.1) (zip (values_of list) (separators_of list))
      ++ fed.option value (slice_get (values_of list) (length (separators_of list)))
