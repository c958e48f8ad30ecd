-- Loops of reads.
use Rattle.std.specs.Prelude.{◌≡◌, false, List, [], ◌∷◌, Some}
use Rattle.tok_core.specs.Forest.{Tree}
use Rattle.tok_buffer.specs.Place.{Place}
use Rattle.tok_buffer.specs.Reads.{is_punct_of, read_ident, read_tree}

-- identifiers are read in turn
pub data PassesIdents : Place → Place → Type 0 where
  none : (p : Place) → PassesIdents p p
  one_more : (p q r : Place) (ts : List Tree) → PassesIdents p q → read_ident q ≡ Some (ts, r) →
      PassesIdents p r

-- trees are read in turn, none of which is an `@`, the character 64
pub data PassesOthers : Place → Place → Type 0 where
  no_more : (p : Place) → PassesOthers p p
  one_other : (p q r : Place) (t : Tree) → PassesOthers p q → read_tree q ≡ Some (t ∷ [], r) →
      is_punct_of 64 t ≡ false → PassesOthers p r
