-- A skip, by the visible trees ahead.
use Rattle.std.proofs.Common.{arith, ◌≡◌, ◌∙◌, Bool, false, Option, Some, None}
use Rattle.std.specs.Prelude.{option_map}
use Rattle.tok_core.specs.Forest.{Forest}
use Rattle.tok_buffer.specs.Place.{Place}
use Rattle.tok_buffer.specs.Reads.{skip}
use Rattle.tok_buffer.specs.View.{erased_ahead}
use Rattle.tok_buffer.proofs.View.Tells.{past_first, skip_tells as skip_passes}
use Rattle.tok_types.specs.Sees.{Sees}
use Rattle.syn_parse.specs.Skips.{past_token, second_sees}

past-first-is : (f : Forest) → past_first f ≡ past_token f
unfolding past_token
past-first-is f = grind arith

-- what is ahead after a skip
pub skip_tells : (p : Place) → option_map erased_ahead (skip p) ≡ past_token (erased_ahead p)
skip_tells p = skip_passes p ∙ past-first-is (erased_ahead p)

pub seen_next : (sees : Option (Forest → Bool)) (p q : Place) (found : Bool) → skip p ≡ Some q
    → Sees sees q found → Sees (second_sees sees) p found
seen_next sees p q found e h = grind (arith, skip_tells)

pub none_next : (sees : Option (Forest → Bool)) (p : Place) → skip p ≡ None
    → Sees (second_sees sees) p false
none_next sees p e = grind (arith, skip_tells)
